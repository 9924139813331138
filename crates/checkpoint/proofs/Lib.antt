pub mod FormLemmas
pub mod SavedLengthLemmas
