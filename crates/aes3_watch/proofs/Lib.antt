pub mod GapWrites
pub mod Accounts
pub mod SignalWords
pub mod WatchedCells
pub mod EventWrites
pub mod Sums
pub mod SumWrites
