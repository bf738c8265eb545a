pub mod Pieces
pub mod Lines
pub mod Text
pub mod Outcomes
pub mod Lengths
