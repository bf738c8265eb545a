pub mod Nodes
pub mod Braces
pub mod KeyAt
pub mod Found
pub mod Seek
pub mod Tests
pub mod Top
pub mod Outcomes
