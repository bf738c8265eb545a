pub mod Accepted
pub mod Rooms
pub mod Held
pub mod Outcomes
