pub mod Whole
pub mod Enough
pub mod Outcomes
