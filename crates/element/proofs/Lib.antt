pub mod Placed
pub mod Outcomes
pub mod Typed
