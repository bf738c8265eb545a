pub mod Got
pub mod Text
pub mod Plain
pub mod ByClass
pub mod Gaps
