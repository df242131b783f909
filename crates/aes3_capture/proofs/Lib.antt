pub mod Steps
pub mod Edges
pub mod Counts
pub mod Whole
pub mod Tolerance
mod Nearness
mod Leaping
mod Leapt
pub mod Mirror
pub mod Telescope
