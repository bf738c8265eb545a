pub mod Listed
pub mod Printable
