pub mod Count
pub mod Visit
