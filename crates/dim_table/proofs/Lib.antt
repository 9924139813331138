pub mod KeyLemmas
pub mod TableLemmas
pub mod RowLemmas
pub mod TableItemsLemmas
pub mod TableWeightLemmas
