pub mod CountedLemmas
pub mod SumsLemmas
pub mod TurnsLemmas
pub mod WatchLemmas
pub mod AddedLemmas
pub mod FilledLemmas
pub mod WatchItemsLemmas
