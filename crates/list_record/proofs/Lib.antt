pub mod Whole
pub mod Outcomes
