pub mod Texts
pub mod Outcomes
pub mod Tables
