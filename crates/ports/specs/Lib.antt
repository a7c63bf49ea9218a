pub mod Ports
pub mod Histories
pub mod Interrupt
pub mod Modules
pub mod Effects
pub mod Bytes
pub mod Demands
pub mod Outcomes
