pub mod Letters
pub mod Answer
