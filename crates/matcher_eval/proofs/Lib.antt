mod EntriesLemmas
mod IndexesLemmas
mod PickedLemmas
mod Worked
