pub mod Captures
pub mod Following
pub mod Leaps
pub mod Directions
pub mod Parts
