pub mod Block
pub mod Examples
