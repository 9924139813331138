mod Worked
pub mod KindsLemmas
pub mod RunsLemmas
pub mod DurationsLemmas
pub mod FullBuckets
pub mod ArrivalsLemmas
pub mod JumpLemmas
pub mod IntervalsLemmas
