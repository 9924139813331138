pub mod LaneClock
pub mod LaneItems
pub mod LaneStands
pub mod LaneJoining
pub use Rattle.metric_producer.specs.Calls
pub use Rattle.metric_producer.specs.Rules
pub use Rattle.metric_producer.specs.LaneCalls
