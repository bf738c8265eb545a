mod Lists
mod Finds
pub mod Inside
pub mod Outcomes
