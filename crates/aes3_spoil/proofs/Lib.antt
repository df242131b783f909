pub mod Damaged
pub mod FrontBits
pub mod Listed
pub mod WholeWords
pub mod SpoiledCells
pub mod Taking
pub mod Writings
mod Refuting
mod Doubled
mod EachError
mod Parity
mod ParityReports
mod CheckByte
mod ReadBack
