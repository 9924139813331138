-- Those so far that are on the metric are counted.
use Rattle.std.proofs.Common.{◌≡◌, ◌≤◌, take, length}
use Rattle.client_engine.specs.Watches.{alerts_at}
use Rattle.client_engine.proofs.alarms.count_on.Given as goal

abbrev pub invariant-loop-place : goal.invariant-loop-place
invariant-loop-place l = record {
  counted : l.count ≡ length (alerts_at l.metric (take l.place l.alerts));
  few : l.count ≤ l.place;
}
