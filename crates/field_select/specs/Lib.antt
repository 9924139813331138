pub mod FieldSets
pub mod LeafValues
pub mod WellFormed
pub mod FieldEnds
