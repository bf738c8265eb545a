pub mod Positions
pub mod Blocks
pub mod Ends
mod ByClass
pub mod Outcomes
mod Returns
pub mod GapEnds
