pub mod World
pub mod Calls
pub mod Answer
