pub mod Walk
pub mod Prints
