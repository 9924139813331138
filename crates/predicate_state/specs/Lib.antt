pub mod PredicateStates
pub mod PredicateTruths
pub mod PredicateTable
pub mod PredicateItems
pub mod PredicateForm
pub mod BoundKeys
