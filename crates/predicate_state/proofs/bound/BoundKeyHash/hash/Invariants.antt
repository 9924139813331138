use Rattle.std.proofs.Common.{◌≡◌, ◌++◌, take}
use Rattle.std.specs.Prelude.{fold}
use Rattle.std.specs.List.{flat_map}
use Rattle.std.specs.Hash as fed
use Rattle.std.proofs.Common.{length}
use Rattle.atom_record.specs.contracts.value.LeafHash.TheImpl as leaf_hash
use Rattle.predicate_state.specs.BoundKeys.{bound_key}
use Rattle.predicate_state.proofs.bound.BoundKeyHash.hash.Given as goal

-- the length and the values so far are fed
abbrev pub invariant-loop-at : goal.invariant-loop-at
invariant-loop-at g l =
    l.state ≡ fold g.H.Hasher.write l.fn.state
    (fed.usize (length l.self.binds.now) ++ flat_map leaf_hash.ghosts.hash_input
    (take l.at (bound_key l.self.binds.now)))
