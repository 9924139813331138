-- The number of leaves and the leaves so far are fed.
use Rattle.std.proofs.Common.{◌≡◌, ◌++◌, take, length}
use Rattle.std.specs.Prelude.{fold}
use Rattle.std.specs.List.{flat_map}
use Rattle.std.specs.Hash as fed
use Rattle.atom_record.specs.Hashing.{leaf_fed}
use Rattle.atom_record.proofs.key.DimKeyHash.hash.Given as goal

abbrev pub invariant-loop-at : goal.invariant-loop-at
invariant-loop-at g l =
    l.state ≡ fold g.H.Hasher.write l.fn.state (fed.usize (length l.self) ++ flat_map leaf_fed (take l.at l.self))
