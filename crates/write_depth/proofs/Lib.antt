pub mod UnderLevels
pub mod Listing
pub mod Nesting
pub mod Views
pub mod Outcomes
