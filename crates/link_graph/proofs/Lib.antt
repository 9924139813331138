pub mod ReachesLaws
pub mod DepthLaws
pub mod UnrollingLaws
pub mod NodeLemmas
pub mod DescentLemmas
pub mod DescentSteps
pub mod OrderLemmas
pub mod SearchLemmas
mod Worked
pub mod IdsLaws
pub mod DepthSearch
pub mod IdsReach
pub mod CallerLemmas
