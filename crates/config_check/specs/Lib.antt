pub mod Findings
pub mod FindingLines
pub mod Checks
