pub mod ReportNumbers
pub mod ReportSpelling
pub mod AtomMessage
pub mod Writable
