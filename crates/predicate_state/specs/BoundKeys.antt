-- Binds of every leaf, as the key that they ask for: only private clauses cite this.
use Rattle.std.specs.Prelude.{◌≡◌, ℕ, ◌<◌, true, List, length, map, slice_index_or}
use Rattle.std.specs.Hash as fed
use Rattle.std.specs.Hash.{HashWrites}
use Rattle.std.specs.Cmp.Lexicographic.{pointwise, pointwise_decides}
use Rattle.std.specs.Bool.{Decides}
use Rattle.std.specs.Cmp.Rules.{comparing, hashing}
use Rattle.std.proofs.Common.{ap, rules}
use Rattle.atom_record.specs.contracts.value.LeafHash.TheImpl as leaf_hash
use Rattle.atom_record.specs.Equal.{leaf_exact}
use Rattle.predicate_state.specs.declared.bind.Bind.{Bind}
use Rattle.predicate_state.specs.contracts.bind.BindPartialEq.TheImpl as bind_test
use Rattle.predicate_state.specs.PredicateTable.{LeafKey, same_leaves}

-- the values of binds, in order
abbrev pub bound_key : List Bind → LeafKey
bound_key binds = map (λ (bind : Bind). bind.value) binds

-- there are so many binds, and each is of the leaf that has its turn
pub record AreInOrder (leaves : ℕ) (binds : List Bind) : Type 0 where
  pub size : length binds ≡ leaves
  pub each : (at : ℕ) (none : Bind) → at < leaves → (slice_index_or binds at none).place ≡ at

-- what binds feed a hasher: what their key does
abbrev pub bound_fed : List Bind → HashWrites
bound_fed binds = fed.slice leaf_hash.ghosts.hash_input (bound_key binds)

-- `==` of binds holds exactly where contracts see the same bind
bind_exact : (one other : Bind) → Decides (bind_test.ghosts.eq one other) (one ≡ other)
bind_exact one other = let value = leaf_exact one.value other.value in search (comparing, hashing, rules, value)

-- the same binds feed the same
pub bound_alike : (one other : List Bind) → pointwise bind_test.ghosts.eq one other ≡ true
    → bound_fed one ≡ bound_fed other
bound_alike one other same = ap bound_fed ((pointwise_decides bind_exact one other).0 same)

-- binds feed what their key does
pub key_alike : (binds : List Bind) (key : LeafKey) → same_leaves (bound_key binds) key ≡ true
    → bound_fed binds ≡ fed.slice leaf_hash.ghosts.hash_input key
key_alike binds key same =
    ap (fed.slice leaf_hash.ghosts.hash_input) ((pointwise_decides leaf_exact (bound_key binds) key).0 same)

-- their key is equal to what a key of the same leaves is
pub key_respects : (binds : List Bind) (one other : LeafKey) → same_leaves (bound_key binds) one ≡ true
    → same_leaves (bound_key binds) other ≡ same_leaves one other
key_respects binds one other same =
    ap (λ key. same_leaves key other) ((pointwise_decides leaf_exact (bound_key binds) one).0 same)
