pub mod Demands
pub mod Example
