-- The metrics so far have their tracks, and predicates know what they knew.
use Rattle.std.proofs.Common.{◌≡◌}
use Rattle.client_engine.specs.Tracks.{AreNew}
use Rattle.client_engine.proofs.parts.tracks_of.Given as goal

abbrev pub invariant-loop-metric : goal.invariant-loop-metric
invariant-loop-metric l = AreNew l.opening l.fn.conditions l.yielded l.tracks.items × (l.conditions ≡ l.fn.conditions)
