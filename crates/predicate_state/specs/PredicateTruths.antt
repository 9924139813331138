-- What a question to a predicate is answered: of one key, and of all keys that agree with some binds.
use Rattle.std.specs.Prelude.{◌≡◌, ℕ, zero, suc, ◌==◌, Bool, true, false, ◌&&◌, nat_lt, List, [], ◌∷◌, length, map, filter, slice_get, Option, Some, None, if◌then◌else◌}
use Rattle.std.specs.List.{list_all, list_any}
use Rattle.std.specs.Map.{lookup}
use Rattle.atom_record.specs.declared.value.Leaf.{Leaf}
use Rattle.atom_record.specs.contracts.value.LeafPartialEq.TheImpl as leaf_test
use Rattle.predicate_state.specs.declared.truth.Truth.{Truth}
use Rattle.predicate_state.specs.declared.truth.Truth.TheVariants.{False, Unknown, True}
use Rattle.predicate_state.specs.declared.bind.Bind.{Bind}
use Rattle.predicate_state.specs.PredicateStates.{PredicateState}

-- what holds of a key that isn't listed
abbrev pub default_truth : Bool → Truth
default_truth unknown = if unknown then Unknown else False

-- a listed key is true while its count is above 0
abbrev pub count_truth : ℕ → Truth
count_truth count = if nat_lt 0 count then True else False

-- the truth of a key with this count, or of one that isn't listed
abbrev pub truth_of_count : Bool → Option ℕ → Truth
truth_of_count unknown None = default_truth unknown
truth_of_count unknown (Some count) = count_truth count

-- the truth of one key
abbrev pub key_truth : {K : Type 0} → (K → K → Bool) → PredicateState K → K → Truth
key_truth same state key = truth_of_count state.unknown (lookup (same key) state.counts)

-- the leaf is there and is the one that is asked for
abbrev pub is_leaf : Option Leaf → Leaf → Bool
is_leaf None value = false
is_leaf (Some leaf) value = leaf_test.ghosts.eq leaf value

-- a key has what every bind asks for
abbrev pub agrees : List Bind → List Leaf → Bool
agrees binds key = list_all (λ (bind : Bind). is_leaf (slice_get key bind.place) bind.value) binds

-- some bind asks for the leaf at a place
abbrev pub is_place_bound : List Bind → ℕ → Bool
is_place_bound binds place = list_any (λ (bind : Bind). bind.place == place) binds

-- each of the first so many places is bound
abbrev pub are_leaves_bound : List Bind → ℕ → Bool
are_leaves_bound binds zero = true
are_leaves_bound binds (suc place) = are_leaves_bound binds place && is_place_bound binds place

-- the counts of the keys that agree with the binds, in order
abbrev pub agreeing_counts : List Bind → List (List Leaf × ℕ) → List ℕ
agreeing_counts binds counts =
    map (λ (entry : List Leaf × ℕ). entry.1) (filter (λ (entry : List Leaf × ℕ). agrees binds entry.0) counts)

-- with every leaf bound at most one key agrees, and its count decides
abbrev pub truth_of_one : Bool → List ℕ → Truth
truth_of_one unknown [] = default_truth unknown
truth_of_one unknown (count ∷ more) = count_truth count

-- with fewer it is enough that one of the keys that agree is true; none of them, even at 0, says that all are false
abbrev pub truth_of_some : Bool → List ℕ → Truth
truth_of_some unknown counts = if list_any (nat_lt 0) counts then True else default_truth unknown

-- the answer by the listed keys, where every leaf is bound, so that at most one key agrees, or where not
abbrev pub truth_of_entries : Bool → Bool → List Bind → List (List Leaf × ℕ) → Truth
truth_of_entries is_one unknown binds counts =
    if is_one then truth_of_one unknown (agreeing_counts binds counts)
    else truth_of_some unknown (agreeing_counts binds counts)

-- the answer to a question, where keys have so many leaves
abbrev pub binds_truth : ℕ → PredicateState (List Leaf) → List Bind → Truth
binds_truth leaves state binds = truth_of_entries (are_leaves_bound binds leaves) state.unknown binds state.counts

-- The binds ask for each leaf of this key.
pub record NamesKey (leaves : ℕ) (binds : List Bind) (key : List Leaf) : Type 0 where
  pub size : length key ≡ leaves
  pub all : are_leaves_bound binds leaves ≡ true
  pub agree : agrees binds key ≡ true
