pub mod Adds
pub mod Along
pub mod Nodes
pub mod Items
pub mod Outcomes
pub mod Whole
