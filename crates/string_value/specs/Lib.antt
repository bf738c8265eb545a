pub mod Elements
pub mod Runs
pub mod Rooms
