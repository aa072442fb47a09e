pub mod Text
pub mod Bytes
pub mod Say
pub mod Show
pub mod Command
