mod PushedWorked
mod PulledWorked
mod Widths
pub mod TotalsLemmas
pub mod BooksLemmas
pub mod MarksTaken
pub mod RowsKept
pub mod PushedLemmas
pub mod KeySumsLemmas
pub mod CallIntervalsLemmas
mod ReadAheadLemmas
pub mod OftenLemmas
pub mod JumpsLemmas
pub mod PulledLemmas
pub mod FormLemmas
pub mod ChoiceNumbersLemmas
pub mod SumsItemsLemmas
pub mod BooksItemsLemmas
pub mod PulledValueItemsLemmas
pub mod JoiningLemmas
