pub mod Due
pub mod Feeds
pub mod Steps
