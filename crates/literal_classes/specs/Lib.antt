pub mod Classes
pub mod Table
