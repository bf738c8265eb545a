pub mod Walks
pub mod Placing
pub mod Outcomes
