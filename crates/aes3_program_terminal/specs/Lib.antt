pub mod Recognising
pub mod Sentences
