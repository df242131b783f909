pub mod Chunks
pub mod Steps
pub mod Following
pub mod Parts
pub mod Made
pub mod ReadBack
