pub mod LaneItemsLemmas
pub mod LaneStandsLemmas
pub mod LaneStepsLemmas
pub mod JoinedEnds
pub mod LaneJoiningLemmas
pub mod CoversLemmas
pub mod LaneRunLemmas
