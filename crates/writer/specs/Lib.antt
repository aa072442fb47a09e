pub mod Staging
pub mod Open
pub mod Write
pub mod Finish
pub mod Ask
pub mod Inner
pub mod Holds
