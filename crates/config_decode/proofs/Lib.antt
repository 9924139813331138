mod Worked
pub mod DepthLemmas
pub mod GroupLemmas
pub mod JoinLemmas
pub mod OneofLemmas
pub mod PackedLemmas
pub mod PassLemmas
pub mod TreeLemmas
pub mod ValuesLemmas
pub mod WalkLemmas
pub mod WorkedConfigs
mod WorkedTrees
