pub mod Names
pub mod Words
pub mod Same
pub mod Outcomes
