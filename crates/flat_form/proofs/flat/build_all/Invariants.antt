-- As many values as turns are built.
use Rattle.flat_form.specs.Flat.{AreBuilt}
use Rattle.flat_form.proofs.flat.build_all.Given as goal

abbrev pub invariant-loop-turn : goal.invariant-loop-turn
invariant-loop-turn g l = AreBuilt g.T.Flat.valid g.T.Flat.flat l.items l.place l._turn l.values l.next
