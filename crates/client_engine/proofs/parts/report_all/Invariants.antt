-- The tracks so far were reported, and the others are as they were.
use Rattle.client_engine.proofs.TracksLemmas.{AreReported}
use Rattle.client_engine.proofs.parts.report_all.Given as goal

abbrev pub invariant-loop-track : goal.invariant-loop-track
invariant-loop-track l =
    AreReported l.base l.request l.initial.track-items l.track-items l.track-index l.trees
