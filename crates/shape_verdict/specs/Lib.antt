pub mod Outline
pub mod Answer
pub mod Signs
