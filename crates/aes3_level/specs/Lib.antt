pub mod Cells
pub mod Words
pub mod Remaining
