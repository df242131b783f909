pub mod Counting
pub mod Magnitudes
pub mod CountedGaps
pub mod Inspecting
pub mod LevelSteps
