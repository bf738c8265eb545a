pub mod Floats
pub mod Half
pub mod Becomes
pub mod Narrow
pub mod Edges
pub mod FloatEdges
