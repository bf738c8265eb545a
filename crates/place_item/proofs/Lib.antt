pub mod Sums
pub mod Items
pub mod Outcomes
