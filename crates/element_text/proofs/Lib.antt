mod Pieces
pub mod Signed
mod Values
mod Strings
mod Lines
pub mod Enough
pub mod Outcomes
