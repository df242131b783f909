pub mod Gathering
mod MarkTexts
