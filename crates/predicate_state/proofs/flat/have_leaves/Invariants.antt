use Rattle.std.proofs.Common.{◌≡◌, ℕ, ◌<◌, length, get_or}
use Rattle.predicate_state.specs.PredicateTable.{LeafKey}
use Rattle.predicate_state.proofs.flat.have_leaves.Given as goal

-- every key so far has so many leaves
abbrev pub invariant-loop-place : goal.invariant-loop-place
invariant-loop-place l = (k : ℕ) (d : LeafKey × ℕ) → k < l.place → length (get_or l.keys.rows k d).0 ≡ l.leaves
