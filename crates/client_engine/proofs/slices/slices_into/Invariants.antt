-- The slices so far, before those of the states that are left, whatever log the book stands for.
use Rattle.std.proofs.Common.{◌≡◌, ◌++◌, List, drop}
use Rattle.atom_record.specs.declared.log.LogFrame.{LogFrame}
use Rattle.state_slicer.specs.StateBooks.{StateBookStandsFor}
use Rattle.metric_meaning.specs.StateSlices.{named_slices}
use Rattle.client_engine.proofs.slices.slices_into.Given as goal

abbrev pub invariant-loop-by : goal.invariant-loop-by
invariant-loop-by g l = (log : List LogFrame) → StateBookStandsFor l.brought.book.now log
    → l.shown ++ named_slices l.brought.states.now log (g.A.Asked.reading l.asked) (drop l.by-index l.slices)
    ≡ named_slices l.brought.states.now log (g.A.Asked.reading l.asked) l.slices
