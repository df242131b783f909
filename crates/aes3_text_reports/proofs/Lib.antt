pub mod EndingLines
pub mod Scans
