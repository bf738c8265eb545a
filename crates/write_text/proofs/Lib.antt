pub mod Listing
pub mod Walking
pub mod Texts
pub mod Prints
pub mod Outcomes
