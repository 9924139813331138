pub mod ConditionLemmas
pub mod BindsLemmas
pub mod ReadsLemmas
