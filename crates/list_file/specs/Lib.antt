pub mod Report
pub mod Said
pub mod Enough
