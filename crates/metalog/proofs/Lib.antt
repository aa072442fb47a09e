pub mod Laws
pub mod Append
pub mod Pages
pub mod Table
pub mod Runs
