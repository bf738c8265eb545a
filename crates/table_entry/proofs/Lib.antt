pub mod Types
pub mod Entry
pub mod Walks
pub mod Outcomes
