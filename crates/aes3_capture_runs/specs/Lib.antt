pub mod Asks
pub mod CellsLine
pub mod Faults
pub mod Lines
pub mod Runs
pub mod Samples
pub mod Sparse
pub mod Values
