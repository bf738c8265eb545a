pub mod Codes
pub mod Values
pub mod ValueEdges
pub mod Given
pub mod Feeders
pub mod FeederSays
