pub mod RuleLemmas
pub mod LaneReach
pub mod LaneCrossing
pub mod LaneCallsLemmas
pub mod OpeningLemmas
pub mod ClockOfCalls
pub mod CollectingLemmas
pub mod JoiningLemmas
pub mod KeysLemmas
pub mod TableLemmas
pub mod SpilledLemmas
pub mod RowItemsLemmas
pub mod CellItemsLemmas
mod Worked
