pub mod Pages
pub mod Exits
pub mod Listed
