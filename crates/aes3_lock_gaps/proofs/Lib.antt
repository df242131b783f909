pub mod GapLemmas
pub mod BegunAccounts
pub mod NextGaps
pub mod ToldFronts
pub mod Telling
