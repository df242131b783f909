pub mod Growing
mod Retries
pub mod Writing
pub mod Buffering
pub mod Lines
pub mod CellTexts
pub mod LineSteps
pub mod Octets
pub mod PackedCells
pub mod PackedReads
pub mod PackedWords
pub mod PackedSteps
pub mod WrittenForms
pub mod TextWords
pub mod OctetWords
pub mod TurnedOctets
pub mod PackedFeeding
pub mod ManyWords
pub mod EightWords
pub mod TextLines
pub mod FedLists
pub mod KeptCells
pub mod SecondCells
pub mod ClosedGaps
pub mod ScatteredText
pub mod TextReads
mod CellBytes
mod Chunks
