pub mod Walks
pub mod Frames
pub mod Owned
pub mod Writing
pub mod Tables
pub mod Commit
pub mod Finding
