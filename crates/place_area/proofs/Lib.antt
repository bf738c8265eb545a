pub mod Area
pub mod Outcomes
pub mod Answers
