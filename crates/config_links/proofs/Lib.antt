mod AskedLemmas
pub mod SoundParts
pub mod SoundNames
pub mod SoundLinks
pub mod SoundSlices
pub mod SoundKinds
pub mod SoundActivations
pub mod SoundAlerts
pub mod SoundMetrics
pub mod SoundLemmas
pub mod SoundUses
mod ReadyLemmas
mod BriefLemmas
pub mod JudgedLemmas
mod LinkWorked
mod ActivationsWorked
mod AlertsWorked
pub mod LinkOrderLemmas
