pub mod Outlines
pub mod Levels
pub mod Orders
pub mod Signs
pub mod Outcomes
