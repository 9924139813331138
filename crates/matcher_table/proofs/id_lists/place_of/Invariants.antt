use Rattle.std.proofs.Common.{◌≡◌, take}
use Rattle.matcher_table.specs.Slots.{times_among}
use Rattle.matcher_table.proofs.id_lists.place_of.Given as goal

abbrev pub invariant-loop-at : goal.invariant-loop-at
invariant-loop-at l = times_among l.slot (take l.at l.slots) ≡ 0
