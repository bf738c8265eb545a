mod Fields
mod Patterns
mod Products
pub mod Becomes
mod Numbers
pub mod OneFloat
pub mod Narrow
pub mod Edges
pub mod FloatEdges
pub mod Outcomes
