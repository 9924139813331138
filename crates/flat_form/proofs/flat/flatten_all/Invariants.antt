-- What was added are the items of those that were seen, and each is valid.
use Rattle.std.proofs.Common.{◌≡◌, ◌++◌, take, All}
use Rattle.std.specs.List.{flat_map}
use Rattle.flat_form.proofs.flat.flatten_all.Given as goal

abbrev pub invariant-loop-value : goal.invariant-loop-value
invariant-loop-value g l = (l.out ≡ l.fn.out ++ flat_map g.T.Flat.flat (take l.value-index l.all))
    × All g.T.Flat.valid (take l.value-index l.all)
