pub mod Quoted
pub mod Outcomes
pub mod Types
pub mod Levels
pub mod Rest
