pub mod Identity
pub mod Quantities
pub mod Trimmed
pub mod Unique
