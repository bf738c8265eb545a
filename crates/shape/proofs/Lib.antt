pub mod Passed
pub mod Turns
pub mod Outcomes
