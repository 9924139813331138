pub mod PartedLemmas
pub mod PartsBalance
pub mod MarksBalance
pub mod StepsBalance
pub mod AmountsBalance
pub mod NumbersBalance
pub mod BalanceLemmas
mod WorkedHistories
mod WorkedAlerts
mod WorkedConditions
mod WorkedStates
mod WorkedDurations
pub mod DurationStepsLemmas
mod WorkedMetrics
mod WorkedEvents
mod WorkedActivations
mod WorkedPushedValues
mod WorkedPushedGauges
mod WorkedTouched
mod WorkedPulls
mod WorkedPulledValues
mod WorkedPulledGauges
pub mod PredicateStepsLemmas
pub mod AlertStepsLemmas
pub mod TouchedLemmas
pub mod TouchedDurations
pub mod ApartLemmas
pub mod SnapshotStepsLemmas
pub mod PulledIntervalsLemmas
pub mod PulledStepsLemmas
