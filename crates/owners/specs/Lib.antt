pub mod Store
pub mod State
pub mod Moves
