pub mod Ascii
pub mod Answers
pub mod Outcomes
