pub mod Tests
pub mod Outcomes
