-- As many rows as turns are built.
use Rattle.dim_table.specs.TableItems.{AreRows}
use Rattle.dim_table.proofs.flat.build_rows.Given as goal

abbrev pub invariant-loop-turn : goal.invariant-loop-turn
invariant-loop-turn g l =
    AreRows g.K.Flat.valid g.V.Flat.valid g.K.Flat.flat g.V.Flat.flat l.fn.empty l.items l.place l._turn l.table l.next
