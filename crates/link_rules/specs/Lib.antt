pub mod Entities
pub mod LinkFaults
pub mod EntityLimits
pub mod EntityIds
pub mod EntityNames
pub mod LinkRules
pub mod Cycles
pub mod CycleNodes
