pub mod Held
pub mod Outcomes
