pub mod Explained
pub mod Jobs
pub mod StatusTexts
