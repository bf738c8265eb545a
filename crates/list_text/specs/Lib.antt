pub mod Listing
pub mod Strided
