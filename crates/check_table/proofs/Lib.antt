pub mod Tests
pub mod Plain
pub mod Fields
pub mod Outcomes
pub mod Typed
pub mod Naming
pub mod Passes
pub mod Readable
