pub mod ReportJson
pub mod Tokens
