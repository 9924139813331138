-- The key so far, and the values of the primary entries that are left, are the whole key.
use Rattle.std.proofs.Common.{◌≡◌, ◌++◌, drop}
use Rattle.book_meaning.specs.States.{primary_leaves}
use Rattle.state_slicer.proofs.told.primary_values.Given as goal

abbrev pub invariant-loop-entry : goal.invariant-loop-entry
invariant-loop-entry l = l.key ++ primary_leaves (drop l.entry-index l.entries) ≡ primary_leaves l.entries
