pub mod Marks
pub mod Placing
