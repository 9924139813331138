pub mod RowsApart
mod DifferentLemmas
mod LiveRows
mod QuestionsWithin
