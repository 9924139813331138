-- What was added are the items of the rows that were seen, and each is valid.
use Rattle.std.proofs.Common.{◌≡◌, ◌++◌, All, take}
use Rattle.std.specs.List.{flat_map}
use Rattle.flat_form.specs.Flat.{IsValidPair, pair_items}
use Rattle.dim_table.proofs.flat.flatten_rows.Given as goal

abbrev pub invariant-loop-place : goal.invariant-loop-place
invariant-loop-place g l =
    (l.out ≡ l.fn.out ++ flat_map (pair_items g.K.Flat.flat g.V.Flat.flat) (take l.place l.table.rows))
    × All (IsValidPair g.K.Flat.valid g.V.Flat.valid) (take l.place l.table.rows)
