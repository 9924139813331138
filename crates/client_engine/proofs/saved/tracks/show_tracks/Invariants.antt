-- What those have that were seen is valid.
use Rattle.std.proofs.Common.{take, All}
use Rattle.client_engine.specs.SavedInstances.{IsSavedTrack}
use Rattle.client_engine.proofs.saved.tracks.show_tracks.Given as goal

abbrev pub invariant-loop-track : goal.invariant-loop-track
invariant-loop-track l = All IsSavedTrack (take l.track-index l.tracks)
