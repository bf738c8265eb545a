mod Complement
pub mod Signs
pub mod Runs
pub mod Forms
pub mod Stored
pub mod Sorts
pub mod Edges
pub mod Outcomes
