-- The places of the order so far have their truths.
use Rattle.std.proofs.Common.{◌≡◌, length}
use Rattle.heard_ids.proofs.IdleLemmas.{AreIdleSoFar}
use Rattle.heard_ids.proofs.idle.truths_along.Given as goal

abbrev pub invariant-loop-place : goal.invariant-loop-place
invariant-loop-place l = record {
  long : length l.truths.items ≡ length l.matchers;
  so_far : AreIdleSoFar l.matchers l.order l.place-index l.truths.items;
}
