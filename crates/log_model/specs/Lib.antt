pub mod Log
pub mod Outcomes
