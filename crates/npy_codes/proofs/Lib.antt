pub mod Said
pub mod ValueEdges
pub mod Then
pub mod FeederNumbers
pub mod Feeders
pub mod Outcomes
