pub mod Begins
pub mod Escapes
pub mod Outcomes
pub mod Reach
pub mod Names
pub mod After
