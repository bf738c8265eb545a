pub mod Trims
pub mod Scalars
pub mod Places
pub mod Ways
pub mod Outcomes
pub mod RoundTrip
