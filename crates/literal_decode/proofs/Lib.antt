mod Stored
pub mod Outcomes
