-- The states of all ids after some atoms, and after one more.
use Rattle.std.proofs.Common.{◌≡◌, ℕ, ℤ, ◌<◌, false, not, cond, ◌&&◌, List, [], ◌∷◌, ◌++◌, Some, map, filter, length, slice_get, Contains, ⊎_elim, refl, sym, ap, subst, ◌∙◌, arith}
use Rattle.std.proofs.lemmas.List.{map-append}
use Rattle.atom_record.specs.declared.value.Leaf.{Leaf}
use Rattle.atom_record.specs.declared.atom.Atom.{Atom}
use Rattle.bucket_meaning.specs.Guard.{is_among, admitted}
use Rattle.bucket_meaning.proofs.GuardLemmas.{not_yet_come}
use Rattle.dim_table.specs.Table.{Table, keys, with_value_at, IsNew, IsTurnedAway}
use Rattle.dim_table.proofs.KeyLemmas.{not_among}
use Rattle.dim_table.proofs.RowLemmas.{rows_by}
use Rattle.book_meaning.specs.BookLimits.{most_state_ids, most_state_keys}
use Rattle.book_meaning.specs.Snapshots.{same_atom_id}
use Rattle.book_meaning.specs.States.{same_dims, puts_back, primary_key}
use Rattle.state_slicer.specs.StateTables.{TakesAtom}
use Rattle.state_slicer.specs.StateBooks.{IsTakenAt, IsTakenFirst, no_states}
use Rattle.state_slicer.proofs.KeyedRowsLemmas.{keys-by, length-by, row_value, row_key}
use Rattle.state_slicer.proofs.ArrivedTableLemmas.{table_for, now_at, now_new, now_away}
use Rattle.state_slicer.proofs.IdStatesLemmas.{ids_exact, dims_exact, state_in, named_in, states_in, other_id, taken, names}

-- the id of an atom
abbrev pub id_of : Atom → ℕ
id_of atom = atom.id

-- the states of all ids after these atoms
abbrev pub book_in : List Atom → Table ℕ (Table (List Leaf) ℤ)
book_in atoms = table_for same_atom_id ids_exact most_state_ids (states_in atoms) (map id_of atoms)

module _ (atoms : List Atom) (atom : Atom) where
  abbrev more : List Atom
  more = atoms ++ atom ∷ []

  ids_more : map id_of atoms ++ atom.id ∷ [] ≡ map id_of more
  ids_more = sym (map-append id_of atoms (atom ∷ []))

  abbrev ended : table_for same_atom_id ids_exact most_state_ids (states_in more)
      (map id_of atoms ++ atom.id ∷ []) ≡ book_in more
  ended = ap (λ ids. table_for same_atom_id ids_exact most_state_ids (states_in more) ids) ids_more

  -- the book after an atom of an id that is there
  pub book_at : (new : Table ℕ (Table (List Leaf) ℤ)) (place : ℕ) → IsTakenAt (book_in atoms) new place atom
      → new ≡ book_in more
  book_at new place at =
      let ids = admitted same_atom_id most_state_ids (map id_of atoms) in
      let before : at.0 ≡ states_in atoms atom.id =
      row_value (states_in atoms) ids place atom.id at.0 at.2 in
      let after : at.1 ≡ states_in more atom.id =
      taken atoms atom at.1 (subst (λ old. TakesAtom old at.1 atom) before at.3) in
      let there : slice_get (keys (book_in atoms)) place ≡ Some atom.id =
      ap (λ ks. slice_get ks place) (keys-by (states_in atoms) ids)
      ∙ row_key (states_in atoms) ids place atom.id at.0 at.2 in
      at.4 ∙ ap (with_value_at (book_in atoms) place) after
      ∙ now_at same_atom_id ids_exact most_state_ids (states_in atoms) (states_in more) (map id_of atoms) atom.id
      (other_id atoms atom) place there ∙ ended

-- an id that no atom has names no key
pub never_named : (id : ℕ) (atoms : List Atom) → is_among same_atom_id id (map id_of atoms) ≡ false
    → named_in atoms id ≡ []
never_named id [] absent = refl
never_named id (atom ∷ atoms) absent =
    let first : same_atom_id atom.id id ≡ false = grind arith in
    let rest : is_among same_atom_id id (map id_of atoms) ≡ false = grind arith in
    ap (λ b. map primary_key (cond (b && not (puts_back atom)) (atom ∷ filter (names id) atoms)
    (filter (names id) atoms))) first
    ∙ never_named id atoms rest

module _ (atoms : List Atom) (atom : Atom) where
  -- the book after the first atom of an id
  pub book_first : (new : Table ℕ (Table (List Leaf) ℤ)) → IsTakenFirst (book_in atoms) new atom
      → new ≡ book_in (atoms ++ atom ∷ [])
  book_first new first =
      let ids = admitted same_atom_id most_state_ids (map id_of atoms) in
      let others = other_id atoms atom in
      ⊎_elim
      (λ (it : (after : Table (List Leaf) ℤ) × TakesAtom no_states after atom
      × IsNew (book_in atoms) new atom.id after (length (book_in atoms).rows)).
      let absent : is_among same_atom_id atom.id ids ≡ false =
      not_among same_atom_id ids_exact ids atom.id
      (subst (λ ks. ¬ Contains ks atom.id) (keys-by (states_in atoms) ids) it.2.absent) in
      let size : length (rows_by (states_in atoms) ids) ≡ length ids = length-by (states_in atoms) ids in
      let room : length ids < most_state_ids = omega (arith, size, it.2.room) in
      let none : named_in atoms atom.id ≡ [] = never_named atom.id atoms
      (not_yet_come same_atom_id ids_exact most_state_ids (map id_of atoms) atom.id room absent) in
      let empty : no_states ≡ states_in atoms atom.id =
      ap (λ ks. table_for same_dims dims_exact most_state_keys (state_in atoms atom.id) ks) (sym none) in
      let after : it.0 ≡ states_in (atoms ++ atom ∷ []) atom.id =
      taken atoms atom it.0 (subst (λ old. TakesAtom old it.0 atom) empty it.1) in
      now_new same_atom_id ids_exact most_state_ids (states_in atoms) (states_in (atoms ++ atom ∷ []))
      (map id_of atoms) atom.id others new (length (book_in atoms).rows)
      (subst (λ s. IsNew (book_in atoms) new atom.id s (length (book_in atoms).rows)) after it.2) ∙ ended atoms atom)
      (λ (away : IsTurnedAway (book_in atoms) new atom.id).
      now_away same_atom_id ids_exact most_state_ids (states_in atoms) (states_in (atoms ++ atom ∷ []))
      (map id_of atoms) atom.id others new away ∙ ended atoms atom)
      first
