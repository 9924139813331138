-- The tracks so far took the run, and the others are as they were.
use Rattle.bucket_clock.specs.Clock.{frame_at}
use Rattle.client_engine.proofs.CaughtUpLemmas.{AreCrossed}
use Rattle.client_engine.proofs.parts.cross_all.Given as goal

abbrev pub invariant-loop-track : goal.invariant-loop-track
invariant-loop-track l =
    AreCrossed (frame_at l.at l.is_pull) l.initial.track-items l.track-items l.track-index
