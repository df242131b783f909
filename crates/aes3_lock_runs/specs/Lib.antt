pub mod Reporting
pub mod Listening
pub mod ReportRuns
pub mod BlockRuns
