pub mod AtomReadingEntries
pub mod AtomReadingFlags
pub mod AtomReadingLoop
pub mod AtomReadingParts
pub mod AtomReadingPayloads
pub mod AtomReadingPlaces
pub mod AtomReadingValues
pub mod AtomSoundLemmas
pub mod TypedLaws
pub mod LoopLemmas
mod AtomReadingSteps
pub mod SparseLemmas
pub mod FedLemmas
