pub mod Exits
pub mod Entries
pub mod Steps
pub mod Commits
pub mod Changes
