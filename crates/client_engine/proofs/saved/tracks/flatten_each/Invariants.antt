-- What was added are the items of those that were seen.
use Rattle.std.proofs.Common.{◌≡◌, ◌++◌, take}
use Rattle.std.specs.List.{flat_map}
use Rattle.client_engine.specs.SavedInstances.{track_items}
use Rattle.client_engine.proofs.saved.tracks.flatten_each.Given as goal

abbrev pub invariant-loop-track : goal.invariant-loop-track
invariant-loop-track l = l.out ≡ l.fn.out ++ flat_map track_items (take l.track-index l.tracks)
