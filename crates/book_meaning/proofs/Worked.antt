-- Worked cases of the definitions, by computing.
use Rattle.std.proofs.Common.{◌≡◌, ℕ, pos, negsuc, true, false, List, [], ◌∷◌, Some, None, refl}
use Rattle.atom_record.specs.declared.value.Value.{Value}
use Rattle.atom_record.specs.declared.value.Value.TheVariants.{Int, Long}
use Rattle.atom_record.specs.declared.value.Leaf.{Leaf}
use Rattle.atom_record.specs.declared.value.Leaf.TheVariants.{One}
use Rattle.atom_record.specs.declared.atom.Atom.{Atom}
use Rattle.atom_record.specs.declared.atom.AtomField.{AtomField}
use Rattle.atom_record.specs.declared.log.LogFrame.{LogFrame}
use Rattle.atom_record.specs.declared.log.LogFrame.TheVariants.{Tick, AtomAt, Pull}
use Rattle.atom_record.specs.declared.log.PullOutcome.TheVariants.{Atoms, Failed}
use Rattle.book_meaning.specs.Snapshots.{kept_ids, snapshot_of, is_kept_next}
use Rattle.book_meaning.specs.States.{state_atom_ids, state_keys, state_value, state_drops, dropped_state_atoms}

-- an entry of a field, with flags
abbrev entry : ℕ → ℕ → Value → AtomField
entry field flags value = record { field = field; index = 0; sub = 0; flags = flags; value = value }

-- an atom of a pulled id
abbrev battery : ℕ → Atom
battery level = record { id = 10001; fields = entry 1 0 (Long (pos level)) ∷ [] }

-- a good pull
abbrev good : ℕ → ℕ → LogFrame
good at level = Pull at 10001 (Atoms (battery level ∷ []))

-- a pull that failed
abbrev bad : ℕ → LogFrame
bad at = Pull at 10001 Failed

-- a failed pull leaves no snapshot, and a good one after it gives one again
last_pull : snapshot_of 10001 (good 1 100 ∷ good 2 130 ∷ []) ≡ Some (battery 130 ∷ [])
last_pull = refl

failed_pull : snapshot_of 10001 (good 1 100 ∷ bad 2 ∷ Tick 3 ∷ []) ≡ None
failed_pull = refl

good_again : snapshot_of 10001 (good 1 100 ∷ bad 2 ∷ good 3 90 ∷ []) ≡ Some (battery 90 ∷ [])
good_again = refl

-- a failed pull takes a place, and an id that isn't pulled takes none
places : kept_ids (bad 1 ∷ Pull 2 5 Failed ∷ Pull 3 150000 (Atoms []) ∷ bad 4 ∷ []) ≡ 10001 ∷ 150000 ∷ []
places = refl

-- a pull that gave no atoms is a snapshot without atoms
no_atoms : snapshot_of 150000 (Pull 3 150000 (Atoms []) ∷ []) ≡ Some []
no_atoms = refl

never_pulled : is_kept_next 5 [] ≡ false
never_pulled = refl

kept_next : is_kept_next 10001 [] ≡ true
kept_next = refl

-- an atom of the id 27 that tells a state, with a key
abbrev screen : ℕ → ℕ → ℕ → LogFrame
screen at key state = AtomAt at
    (record { id = 27; fields = entry 1 2 (Int (pos key)) ∷ entry 2 1 (Int (pos state)) ∷ [] })

-- an atom of the id 27 that puts all states back
abbrev back : ℕ → LogFrame
back at = AtomAt at (record { id = 27; fields = entry 1 2 (Int (pos 8)) ∷ entry 2 5 (Int (pos 6)) ∷ [] })

-- a key of one number
abbrev at_key : ℕ → List Leaf
at_key n = One (Int (pos n)) ∷ []

-- each key has the state that the log last gave it
last_state : state_value 27 (at_key 7) (screen 1 7 3 ∷ screen 2 8 4 ∷ screen 3 7 5 ∷ []) ≡ pos 5
last_state = refl

absent_key : state_value 27 (at_key 9) (screen 1 7 3 ∷ []) ≡ negsuc 0
absent_key = refl

absent_id : state_value 28 (at_key 7) (screen 1 7 3 ∷ []) ≡ negsuc 0
absent_id = refl

-- a reset sets the states of all keys back, and names no key of its own
set_back : state_value 27 (at_key 7) (screen 1 7 3 ∷ back 2 ∷ []) ≡ negsuc 0
set_back = refl

after_reset : state_value 27 (at_key 7) (screen 1 7 3 ∷ back 2 ∷ screen 3 7 4 ∷ []) ≡ pos 4
after_reset = refl

keys_after_reset : state_keys 27 (screen 1 7 3 ∷ back 2 ∷ []) ≡ at_key 7 ∷ []
keys_after_reset = refl

-- a reset may be the first atom of an id, which then has no key
reset_first : state_atom_ids (back 1 ∷ []) ≡ 27 ∷ []
reset_first = refl

-- an entry that is exclusive and primary is part of the key
both : state_value 30 (at_key 6) (AtomAt 1 (record { id = 30; fields = entry 2 3 (Int (pos 6)) ∷ [] }) ∷ []) ≡ pos 6
both = refl

-- an atom without an exclusive entry tells no state
tells_none : state_atom_ids (AtomAt 1 (battery 5) ∷ []) ≡ []
tells_none = refl

-- nothing is dropped while there is room
none_dropped : state_drops 27 (screen 1 7 3 ∷ back 2 ∷ []) ≡ 0
none_dropped = refl

no_atom_dropped : dropped_state_atoms (screen 1 7 3 ∷ back 2 ∷ []) ≡ 0
no_atom_dropped = refl
