pub mod EverySample
pub mod LeastPosition
pub mod AnyMemory
pub mod SoundLog
pub mod Examples
