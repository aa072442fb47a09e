pub mod Format
pub mod Scan
pub mod Mount
pub mod Loads
pub mod Mounted
pub mod Looks
