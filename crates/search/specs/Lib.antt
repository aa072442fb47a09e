pub mod Hunt
pub mod Search
pub mod Told
pub mod Right
pub mod Depth
