pub mod Fields
pub mod Sizes
pub mod DtypeChecks
pub mod Outcomes
pub mod Checks
pub mod Accepts
