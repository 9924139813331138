-- The states that the log last gave: for each id of state atoms, a state for each key.
use Rattle.std.specs.Prelude.{ℕ, ℤ, negsuc, Bool, not, ◌&&◌, ◌||◌, List, [], ◌∷◌, Option, Some, None, map, filter, is_some, if◌then◌else◌}
use Rattle.std.specs.List.{flat_map, find, list_any, last_or}
use Rattle.std.specs.Cmp.Lexicographic.{pointwise}
use Rattle.atom_record.specs.declared.value.Value.{Value}
use Rattle.atom_record.specs.declared.value.Value.TheVariants as values
use Rattle.atom_record.specs.declared.value.Leaf.{Leaf}
use Rattle.atom_record.specs.declared.value.Leaf.TheVariants.{One}
use Rattle.atom_record.specs.contracts.value.LeafPartialEq.TheImpl as leaf_test
use Rattle.atom_record.specs.declared.atom.Atom.{Atom}
use Rattle.atom_record.specs.declared.atom.AtomField.{AtomField}
use Rattle.atom_record.specs.declared.log.LogFrame.{LogFrame}
use Rattle.atom_record.specs.declared.log.LogFrame.TheVariants.{Tick, AtomAt, Pull}
use Rattle.atom_record.specs.Flags.{is_exclusive, is_primary, is_reset}
use Rattle.bucket_meaning.specs.Guard.{is_among, admitted, dropped}
use Rattle.book_meaning.specs.BookLimits.{most_state_ids, most_state_keys}
use Rattle.book_meaning.specs.Snapshots.{same_atom_id}

-- two keys are equal
abbrev pub same_dims : List Leaf → List Leaf → Bool
same_dims = pointwise leaf_test.ghosts.eq

-- the state of an id and key of which nothing is known: -1
abbrev pub no_state_known : ℤ
no_state_known = negsuc 0

-- the entry that holds the state of an atom
abbrev pub state_entry : Atom → Option AtomField
state_entry atom = find is_exclusive atom.fields

-- an atom tells a state: it has an exclusive entry
abbrev pub tells_state : Atom → Bool
tells_state atom = is_some (state_entry atom)

-- an atom puts all states of its id back
abbrev pub puts_back : Atom → Bool
puts_back atom = list_any is_reset atom.fields

-- the number that a value holds, if it is an Int
abbrev pub int_or_unknown : Value → ℤ
int_or_unknown (values.Int n) = n
int_or_unknown _ = no_state_known

-- the state that an entry holds
abbrev pub state_held : Option AtomField → ℤ
state_held None = no_state_known
state_held (Some entry) = int_or_unknown entry.value

-- the state that an atom tells
abbrev pub told_state : Atom → ℤ
told_state atom = state_held (state_entry atom)

-- the values of the primary entries of these
abbrev pub primary_leaves : List AtomField → List Leaf
primary_leaves entries = map (λ (entry : AtomField). One entry.value) (filter is_primary entries)

-- the key of a state: the values of the atom's primary entries
abbrev pub primary_key : Atom → List Leaf
primary_key atom = primary_leaves atom.fields

-- the state atom that a frame of the log is, if it is one
abbrev pub state_atom_in : LogFrame → List Atom
state_atom_in (Tick at) = []
state_atom_in (AtomAt at atom) = if tells_state atom then atom ∷ [] else []
state_atom_in (Pull at id outcome) = []

-- the state atoms of the log, in order
abbrev pub state_atoms : List LogFrame → List Atom
state_atoms frames = flat_map state_atom_in frames

-- the ids of the book: the first distinct ones of state atoms, of those that put states back too
abbrev pub state_atom_ids : List LogFrame → List ℕ
state_atom_ids frames = admitted same_atom_id most_state_ids (map (λ (atom : Atom). atom.id) (state_atoms frames))

-- how many state atoms have an id that isn't in the book
abbrev pub dropped_state_atoms : List LogFrame → ℕ
dropped_state_atoms frames = dropped same_atom_id most_state_ids (map (λ (atom : Atom). atom.id) (state_atoms frames))

-- an id is in the book
abbrev pub is_state_id : ℕ → List LogFrame → Bool
is_state_id id frames = is_among same_atom_id id (state_atom_ids frames)

-- the keys that the state atoms of an id name, but for those that put states back
abbrev pub named_keys : ℕ → List LogFrame → List (List Leaf)
named_keys id frames =
    map primary_key (filter (λ (atom : Atom). same_atom_id atom.id id && not (puts_back atom)) (state_atoms frames))

-- the first distinct keys that the state atoms of an id name
abbrev pub first_keys : ℕ → List LogFrame → List (List Leaf)
first_keys id frames = admitted same_dims most_state_keys (named_keys id frames)

-- how many state atoms of an id name another key
abbrev pub other_keys : ℕ → List LogFrame → ℕ
other_keys id frames = dropped same_dims most_state_keys (named_keys id frames)

-- the keys of an id: of one that is in the book the first ones, and else none
abbrev pub state_keys : ℕ → List LogFrame → List (List Leaf)
state_keys id frames = if is_state_id id frames then first_keys id frames else []

-- how many state atoms of an id of the book name a key that isn't one of its keys
abbrev pub state_drops : ℕ → List LogFrame → ℕ
state_drops id frames = if is_state_id id frames then other_keys id frames else 0

-- an atom decides the state of a key: it has the key, or puts all states back
abbrev pub decides : ℕ → List Leaf → Atom → Bool
decides id key atom = same_atom_id atom.id id && (puts_back atom || same_dims (primary_key atom) key)

-- the state after the atom that decided it last
abbrev pub state_by : Option Atom → ℤ
state_by None = no_state_known
state_by (Some atom) = if puts_back atom then no_state_known else told_state atom

-- what the last state atom that decides the state of a key says
abbrev pub last_state : ℕ → List Leaf → List LogFrame → ℤ
last_state id key frames = state_by (last_or None (filter (decides id key) (state_atoms frames)))

-- the state of a key of an id; what isn't among the keys has none
abbrev pub state_value : ℕ → List Leaf → List LogFrame → ℤ
state_value id key frames =
    if is_among same_dims key (state_keys id frames) then last_state id key frames else no_state_known
