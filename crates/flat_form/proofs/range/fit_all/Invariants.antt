-- Those that were seen fit.
use Rattle.std.proofs.Common.{take, All}
use Rattle.flat_form.specs.ItemRange.{IsItemInRange}
use Rattle.flat_form.proofs.range.fit_all.Given as goal

abbrev pub invariant-loop-item : goal.invariant-loop-item
invariant-loop-item l = All IsItemInRange (take l.item-index l.items)
