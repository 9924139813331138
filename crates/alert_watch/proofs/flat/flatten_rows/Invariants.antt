-- The items of the rows that were seen were added.
use Rattle.std.proofs.Common.{◌≡◌, ◌++◌, take}
use Rattle.std.specs.List.{flat_map}
use Rattle.alert_watch.specs.WatchItems.{key_count_items}
use Rattle.alert_watch.proofs.flat.flatten_rows.Given as goal

abbrev pub invariant-loop-place : goal.invariant-loop-place
invariant-loop-place l = l.out ≡ l.fn.out ++ flat_map key_count_items (take l.place l.table.rows)
