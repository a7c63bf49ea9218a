pub mod Beside
pub mod Ports
