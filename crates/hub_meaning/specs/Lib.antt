pub mod SessionLog
pub mod Acceptance
pub mod LiveConfigs
pub mod ClientAnswers
pub mod ClientIsolation
pub mod EndedBooks
