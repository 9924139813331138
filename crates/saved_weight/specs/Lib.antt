pub mod Entries
pub mod WayBooks
pub mod KindWeights
pub mod AlertWeights
pub mod HistoryWeights
pub mod BookWeights
pub mod Weigh
