-- As many rows as turns are built.
use Rattle.flat_form.specs.Flat.{Anything, dims_items}
use Rattle.dim_table.specs.TableItems.{AreRows}
use Rattle.state_slicer.specs.StateItems.{state_items, FitsState}
use Rattle.state_slicer.proofs.flat.build_rows.Given as goal

abbrev pub invariant-loop-turn : goal.invariant-loop-turn
invariant-loop-turn l =
    AreRows Anything FitsState dims_items state_items l.fn.empty l.items l.place l._turn l.states l.next
