-- What one more has is valid, and in the end what all have.
use Rattle.atom_record.proofs.LoopLemmas.{holds_one, holds_all}
use Rattle.client_engine.specs.SavedInstances.{IsSavedTrack}
use Rattle.client_engine.proofs.saved.tracks.show_tracks.Goals as goal

pub loop-track-preserved : goal.loop-track-preserved
loop-track-preserved c =
    holds_one c.args.tracks.now c.loop-track.track-index c.track-item.result c.loop-track-test.true c.track-item.is
    IsSavedTrack c.loop-track.invariant (c.show_valid.ensures, c.show_valid-in-loop-track.ensures)

pub returns : goal.returns
returns c = holds_all c.args.tracks.now c.loop-track.track-index c.loop-track-test.false IsSavedTrack
    c.loop-track.invariant
