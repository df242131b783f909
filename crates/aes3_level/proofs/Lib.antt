pub mod WordCells
pub mod WordLists
pub mod Moves
pub mod Runs
pub mod CellsIn
pub mod Remaining
