-- What was added are the items of those that were seen.
use Rattle.std.proofs.Common.{◌≡◌, ◌++◌, take}
use Rattle.std.specs.List.{flat_map}
use Rattle.known_conditions.proofs.flat_lists.flatten_each.Given as goal

abbrev pub invariant-loop-value : goal.invariant-loop-value
invariant-loop-value g l = l.out ≡ l.fn.out ++ flat_map g.T.Flat.flat (take l.value-index l.all)
