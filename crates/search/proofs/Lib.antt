pub mod Pages
pub mod Levels
pub mod Calls
pub mod Offers
pub mod Sound
pub mod Turns
pub mod Depth
pub mod Numbers
