pub mod Begins
pub mod After
pub mod Parts
