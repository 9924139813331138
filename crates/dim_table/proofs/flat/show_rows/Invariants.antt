-- The rows that were seen are valid.
use Rattle.std.proofs.Common.{All, take}
use Rattle.flat_form.specs.Flat.{IsValidPair}
use Rattle.dim_table.proofs.flat.show_rows.Given as goal

abbrev pub invariant-loop-place : goal.invariant-loop-place
invariant-loop-place g l = All (IsValidPair g.K.Flat.valid g.V.Flat.valid) (take l.place l.table.rows)
