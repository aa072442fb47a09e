pub mod Truncate
pub mod Rename
pub mod Commit
pub mod Walks
