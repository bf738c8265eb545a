pub mod Lifted
pub mod Written
