pub mod Cases
pub mod First
pub mod Kept
