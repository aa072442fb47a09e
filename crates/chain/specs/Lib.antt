pub mod Links
pub mod Steps
pub mod Walk
pub mod Seek
pub mod Back
pub mod Files
