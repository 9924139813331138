-- What was added are the payloads of those that were seen.
use Rattle.std.proofs.Common.{◌≡◌, ◌++◌, take}
use Rattle.std.specs.List.{flat_map}
use Rattle.pull_book.specs.PullItems.{payload_items}
use Rattle.pull_book.proofs.flat.flatten_atoms.Given as goal

abbrev pub invariant-loop-atom : goal.invariant-loop-atom
invariant-loop-atom l = l.out ≡ l.fn.out ++ flat_map payload_items (take l.atom-index l.atoms)
