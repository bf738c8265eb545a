pub mod Bytes
pub mod Element
