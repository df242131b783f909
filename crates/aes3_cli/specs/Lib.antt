pub mod CommandLine
pub mod LineFaults
pub mod Numbers
pub mod Options
pub mod Wording
