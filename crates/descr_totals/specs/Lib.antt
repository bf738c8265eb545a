pub mod Totals
pub mod Verdict
