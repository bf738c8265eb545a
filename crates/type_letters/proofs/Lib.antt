pub mod Tables
pub mod OrderTables
pub mod Outcomes
pub mod LetterTables
pub mod Tags
