pub mod Sealed
pub mod Blocks
pub mod Bytes
pub mod Damage
pub mod Examples
