use Rattle.std.proofs.Common.{◌≡◌, take}
use Rattle.config_links.proofs.table.table_of.Given as goal

-- the table has the items so far
abbrev pub invariant-loop-item : goal.invariant-loop-item
invariant-loop-item g l = l.table ≡ take l.item-index l.items
