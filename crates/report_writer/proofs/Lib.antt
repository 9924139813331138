pub mod AtomMessageLemmas
pub mod Worked
