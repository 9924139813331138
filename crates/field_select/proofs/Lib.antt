mod Worked
pub mod RepeatLemmas
pub mod LeafLemmas
pub mod EndLemmas
pub mod EndWalkLemmas
pub mod EndTableLemmas
