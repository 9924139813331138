-- What was added is the spelling of the leaves so far.
use Rattle.std.proofs.Common.{◌≡◌, ◌++◌, take}
use Rattle.std.specs.List.{flat_map}
use Rattle.flat_form.specs.ItemSpelling.{spelled_leaf}
use Rattle.flat_form.proofs.encode.encode_leaves.Given as goal

abbrev pub invariant-loop-at : goal.invariant-loop-at
invariant-loop-at l = l.out.items ≡ l.fn.out.items ++ flat_map spelled_leaf (take l.at l.dims)
