mod Runs
pub mod Marking
