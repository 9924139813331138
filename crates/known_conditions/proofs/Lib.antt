pub mod MatchedLemmas
pub mod ListsLemmas
pub mod MarksLemmas
pub mod KeptPredicatesLemmas
pub mod TouchersLemmas
pub mod AskedLemmas
pub mod SavedListsLemmas
