pub mod Reports
pub mod Listening
pub mod ReportLemmas
pub mod ReportRuns
pub mod BlockRuns
