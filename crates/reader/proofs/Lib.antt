pub mod Exits
pub mod Bytes
pub mod Places
pub mod Live
pub mod Numbers
