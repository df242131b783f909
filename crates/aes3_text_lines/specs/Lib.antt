pub mod MarkLines
pub mod StatusLines
pub mod Gathering
pub mod Events
pub mod SumLines
