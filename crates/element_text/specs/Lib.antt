pub mod Hexadecimal
pub mod Floats
pub mod Text
pub mod Puts
