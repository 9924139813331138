-- What was added is the spelling of those that were seen.
use Rattle.std.proofs.Common.{◌≡◌, ◌++◌, take}
use Rattle.std.specs.List.{flat_map}
use Rattle.flat_form.proofs.encode.encode_all.Given as goal

abbrev pub invariant-loop-one : goal.invariant-loop-one
invariant-loop-one g l = l.out.items ≡ l.fn.out.items ++ flat_map g.T.Encode.spelling (take l.one-index l.all)
