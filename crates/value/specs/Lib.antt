pub mod Values
pub mod Sizes
pub mod Stored
pub mod Sorts
pub mod Edges
