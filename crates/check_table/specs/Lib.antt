pub mod Decides
pub mod Reading
pub mod Named
