pub mod Refusals
pub mod Values
pub mod Checks
pub mod World
