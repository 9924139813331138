-- The items of one more come after those of the others.
use Rattle.known_conditions.proofs.SavedListsLemmas.{front_before, on_failure}
use Rattle.atom_record.proofs.LoopLemmas.{adds_one, adds_all}
use Rattle.client_engine.specs.SavedInstances.{track_items}
use Rattle.client_engine.proofs.saved.tracks.flatten_each.Goals as goal

pub loop-track-preserved : goal.loop-track-preserved
loop-track-preserved c =
    adds_one c.args.tracks.now c.loop-track.track-index c.track-item.result c.loop-track-test.true c.track-item.is
    track_items _ _ _ c.loop-track.invariant c.in_ok-flatten_track.ensures.added

pub returns-clause-added : goal.returns-clause-added
returns-clause-added c = adds_all c.args.tracks.now c.loop-track.track-index c.loop-track-test.false track_items _ _
    c.loop-track.invariant

-- some of the items of one stand after those of the others
pub returns-in_err-flatten_track-clause-err : goal.returns-in_err-flatten_track-clause-err
returns-in_err-flatten_track-clause-err c =
    on_failure c.from_residual.result (front_before _ _ _ _ c.loop-track.invariant c.in_err-flatten_track.ensures.err)
