-- Those that were seen fit.
use Rattle.std.proofs.Common.{take, All}
use Rattle.atom_record.specs.AtomSound.{IsInRange}
use Rattle.flat_form.proofs.range.fit_values.Given as goal

abbrev pub invariant-loop-value : goal.invariant-loop-value
invariant-loop-value l = All IsInRange (take l.value-index l.values)
