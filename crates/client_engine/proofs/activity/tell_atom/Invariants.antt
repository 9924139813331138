-- What the atom says of the activations before the place is found.
use Rattle.std.proofs.Common.{◌≡◌, length}
use Rattle.client_engine.specs.Activity.{starts_by, cancels_by, AreSaid}
use Rattle.client_engine.proofs.activity.tell_atom.Given as goal

abbrev pub invariant-loop-place : goal.invariant-loop-place
invariant-loop-place l = record {
  started : AreSaid (starts_by l.matched) l.activations l.place l.started;
  cancelled : AreSaid (cancels_by l.matched) l.activations l.place l.cancelled;
  starts : length l.started ≡ 8;
  cancels : length l.cancelled ≡ 8;
}
