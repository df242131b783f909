pub mod Places
pub mod Sentences
