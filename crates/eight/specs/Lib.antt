pub mod Tables
pub mod Module
pub mod Demands
