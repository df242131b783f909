pub mod SubframeRuns
pub mod LineRuns
pub mod LineWindows
pub mod Beginnings
pub mod LongPairs
pub mod FoundPreambles
pub mod Streams
