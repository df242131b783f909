pub mod EachWord
pub mod OneWord
pub mod ReadBack
pub mod Ahead
