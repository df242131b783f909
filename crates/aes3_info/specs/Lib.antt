pub mod Facts
pub mod Levels
pub mod Rates
pub mod Pages
pub mod Infos
