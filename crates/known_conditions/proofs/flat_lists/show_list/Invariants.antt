-- Those that were seen are valid.
use Rattle.std.proofs.Common.{take, All}
use Rattle.known_conditions.proofs.flat_lists.show_list.Given as goal

abbrev pub invariant-loop-value : goal.invariant-loop-value
invariant-loop-value g l = All g.T.Flat.valid (take l.value-index l.all)
