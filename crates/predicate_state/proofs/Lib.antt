pub mod KeyCountLemmas
pub mod PredicateStateLemmas
pub mod BindLemmas
pub mod FormLemmas
mod Worked
pub mod OneKeyLemmas
pub mod BoundKeyLemmas
pub mod ApartLemmas
