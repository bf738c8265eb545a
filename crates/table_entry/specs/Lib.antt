pub mod EntryType
pub mod Answer
