pub mod FieldParts
pub mod Filling
pub mod Storing
pub mod Text
pub mod File
pub mod Outcomes
