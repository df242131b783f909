pub mod Kinds
pub mod Packed
pub mod Sound
