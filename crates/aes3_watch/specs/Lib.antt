pub mod GapLines
pub mod Accounting
pub mod Signals
pub mod Watching
pub mod Sums
pub mod Kept
