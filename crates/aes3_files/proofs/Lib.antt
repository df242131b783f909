mod LongRuns
mod PackedPairs
