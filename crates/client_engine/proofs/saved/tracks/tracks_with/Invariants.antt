-- The metrics so far have their tracks, and the others will have what is left.
use Rattle.std.proofs.Common.{◌≡◌, ◌++◌, map}
use Rattle.std.specs.Vec.Iter.{into_iter_items}
use Rattle.client_engine.specs.SavedInstances.{held_in}
use Rattle.client_engine.specs.Tracks.{metric_in}
use Rattle.client_engine.proofs.saved.tracks.tracks_with.Given as goal

abbrev pub invariant-loop-metric : goal.invariant-loop-metric
invariant-loop-metric l = (map metric_in l.tracks.items ≡ l.yielded)
    × (map held_in l.tracks.items ++ into_iter_items l.rest ≡ l.fn.held)
