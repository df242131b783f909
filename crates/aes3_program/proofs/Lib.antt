mod PackedOutputs
pub mod ErrorsToldLemmas
pub mod Flushes
pub mod RawRuns
pub mod RemarkLines
pub mod WordLemmas
