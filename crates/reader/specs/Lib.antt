pub mod Locate
pub mod Read
pub mod Skip
pub mod Turn
pub mod Ask
