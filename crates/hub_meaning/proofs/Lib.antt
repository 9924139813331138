pub mod SessionLogLaws
pub mod LiveConfigLaws
pub mod ClientAnswerLaws
pub mod ClientIsolationLemmas
pub mod EndedBooksLemmas
