pub mod Reading
pub mod WordReads
pub mod WholeBlocks
pub mod BlockReads
pub mod Feeding
pub mod StatusLaws
pub mod StreamBytes
