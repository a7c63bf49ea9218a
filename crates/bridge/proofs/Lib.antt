pub mod Unique
pub mod Logs
