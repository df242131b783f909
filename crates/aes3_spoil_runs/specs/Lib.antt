pub mod Asks
pub mod Faults
pub mod Lines
pub mod Named
pub mod Runs
pub mod SpoilLine
pub mod Values
