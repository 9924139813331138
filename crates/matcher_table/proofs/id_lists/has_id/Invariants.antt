use Rattle.std.proofs.Common.{◌≡◌, take}
use Rattle.matcher_table.specs.Slots.{times_among}
use Rattle.matcher_table.proofs.id_lists.has_id.Given as goal

abbrev pub invariant-loop-other : goal.invariant-loop-other
invariant-loop-other l = times_among l.id (take l.other-index l.ids) ≡ 0
