pub mod Limited
pub mod Checked
pub mod Valid
pub mod Answer
