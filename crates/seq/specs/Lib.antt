pub mod Ids
pub mod Seq
pub mod Seed
pub mod Rows
