-- The timers so far were told, and how long each lasts stays.
use Rattle.std.proofs.Common.{◌≡◌, ◌<◌, All, length}
use Rattle.bucket_meaning.specs.Limits.{time_limit}
use Rattle.metric_activation.specs.Timers.{IsTimer, ttls_of, AreToldBelow}
use Rattle.metric_activation.proofs.book.tell_all.Given as goal

abbrev pub invariant-loop-place : goal.invariant-loop-place
invariant-loop-place l = record {
  len : length l.timers.items ≡ length l.fn.timers.items;
  told : l.at < time_limit → AreToldBelow l.place l.at l.started l.cancelled l.fn.timers.items l.timers.items;
  sound : All IsTimer l.timers.items;
  ttls : ttls_of l.timers.items ≡ ttls_of l.fn.timers.items;
}
