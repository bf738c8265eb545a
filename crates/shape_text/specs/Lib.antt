pub mod Members
pub mod Answer
pub mod Walk
pub mod Fill
