-- The first exclusive entry of what is left is the first of all.
use Rattle.std.proofs.Common.{◌≡◌, drop}
use Rattle.std.specs.List.{find}
use Rattle.atom_record.specs.Flags.{is_exclusive}
use Rattle.state_slicer.proofs.told.exclusive_entry.Given as goal

abbrev pub invariant-loop-entry : goal.invariant-loop-entry
invariant-loop-entry l = find is_exclusive (drop l.entry-index l.entries) ≡ find is_exclusive l.entries
