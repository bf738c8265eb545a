pub mod Sums
pub mod PlainTotals
pub mod Limits
pub mod Outcomes
