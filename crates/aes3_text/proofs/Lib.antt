pub mod RunLines
pub mod StatusChanges
pub mod StatusFlips
pub mod NewLines
