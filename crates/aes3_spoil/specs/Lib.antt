pub mod EachLaws
pub mod Errors
pub mod ReadBack
pub mod ReportLaws
pub mod SpoilLaws
pub mod Spoiled
pub mod Spoiling
pub mod Subframes
