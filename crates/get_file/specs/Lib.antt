pub mod Found
pub mod Numbers
pub mod Puts
