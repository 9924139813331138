-- What a book answers is what the definitions say of the frames that it stands for.
use Rattle.std.proofs.Common.{◌≡◌, ℕ, ℤ, true, false, if◌then◌else◌, List, [], Some, map, slice_get, Contains, inl, inr, ⊎_elim, sym, ap, subst, ◌∙◌}
use Rattle.std.proofs.lemmas.Bool.{cases_Bool, true≢false}
use Rattle.atom_record.specs.declared.value.Leaf.{Leaf}
use Rattle.atom_record.specs.declared.log.LogFrame.{LogFrame}
use Rattle.bucket_meaning.specs.Guard.{is_among, admitted}
use Rattle.bucket_meaning.specs.Kept.{count_in_u64}
use Rattle.dim_table.specs.Table.{Table, keys}
use Rattle.dim_table.proofs.KeyLemmas.{Contains-from_place, Contains-from_is_among, is_among-from_Contains, not_among}
use Rattle.book_meaning.specs.BookLimits.{most_state_ids}
use Rattle.book_meaning.specs.Snapshots.{same_atom_id}
use Rattle.book_meaning.specs.States.{same_dims, no_state_known, state_atoms, is_state_id, first_keys, state_value, state_drops, other_keys, last_state}
use Rattle.state_slicer.specs.StateTables.{IsStateOf}
use Rattle.state_slicer.specs.StateBooks.{StateBookStandsFor, IsAtId, IsStateBy}
use Rattle.state_slicer.proofs.KeyedRowsLemmas.{keys-by, row_value, row_key}
use Rattle.state_slicer.proofs.IdStatesLemmas.{ids_exact, dims_exact, state_in, states_in}
use Rattle.state_slicer.proofs.BookAtomsLemmas.{id_of, book_in}
use Rattle.state_slicer.proofs.StateBookLemmas.{is_book}

-- a key has a row with its state, or none, and then the state is -1
pub state_by : (states : Table (List Leaf) ℤ) (key : List Leaf) (value : ℤ)
    → (Contains (keys states) key → IsStateOf states key value)
    → ((¬ Contains (keys states) key) → value ≡ no_state_known) → IsStateBy states key value
state_by states key value at_key no_key = ⊎_elim
    (λ (among : is_among same_dims key (keys states) ≡ true).
    inl (at_key (Contains-from_is_among same_dims dims_exact (keys states) key among)))
    (λ (other : is_among same_dims key (keys states) ≡ false).
    let absent : ¬ Contains (keys states) key = λ has.
    true≢false (sym (is_among-from_Contains same_dims dims_exact (keys states) key has) ∙ other) in
    inr (absent, no_key absent))
    (cases_Bool (is_among same_dims key (keys states)))

module _ (book : Table ℕ (Table (List Leaf) ℤ)) (id : ℕ) (frames : List LogFrame)
    (stands : StateBookStandsFor book frames) where
  abbrev book_ids : List ℕ
  book_ids = admitted same_atom_id most_state_ids (map id_of (state_atoms frames))

  book_keys : keys book ≡ book_ids
  book_keys = ap keys (is_book book frames stands) ∙ keys-by (states_in (state_atoms frames)) book_ids

  -- an id that isn't there
  no_id : ¬ Contains (keys book) id → is_state_id id frames ≡ false
  no_id absent = not_among same_atom_id ids_exact book_ids id (subst (λ ks. ¬ Contains ks id) book_keys absent)

  pub value_absent : (key : List Leaf) → ¬ Contains (keys book) id → no_state_known ≡ state_value id key frames
  value_absent key absent =
      sym (ap (λ b. if is_among same_dims key (if b then first_keys id frames else [])
      then last_state id key frames else no_state_known) (no_id absent))

  pub drops_absent : ¬ Contains (keys book) id → 0 ≡ count_in_u64 (state_drops id frames)
  drops_absent absent = sym (ap (λ b. count_in_u64 (if b then other_keys id frames else 0)) (no_id absent))

  module _ (states : Table (List Leaf) ℤ) (there : IsAtId book id states) where
    at_id : slice_get (book_in (state_atoms frames)).rows there.0 ≡ Some (id, states)
    at_id = ap (λ (t : Table ℕ (Table (List Leaf) ℤ)). slice_get t.rows there.0) (sym (is_book book frames stands))
        ∙ there.1

    are_states : states ≡ states_in (state_atoms frames) id
    are_states = row_value (states_in (state_atoms frames)) book_ids there.0 id states at_id

    in_book : is_state_id id frames ≡ true
    in_book = is_among-from_Contains same_atom_id ids_exact book_ids id
        (Contains-from_place book_ids there.0 id
        (row_key (states_in (state_atoms frames)) book_ids there.0 id states at_id))

    pub drops_there : states.dropped ≡ count_in_u64 (state_drops id frames)
    drops_there = ap (λ (t : Table (List Leaf) ℤ). t.dropped) are_states
        ∙ sym (ap (λ b. count_in_u64 (if b then other_keys id frames else 0)) in_book)

    states_keys : keys states ≡ first_keys id frames
    states_keys = ap keys are_states ∙ keys-by (state_in (state_atoms frames) id) (first_keys id frames)

    pub value_there : (key : List Leaf) (value : ℤ) → (Contains (keys states) key → IsStateOf states key value)
        → ((¬ Contains (keys states) key) → value ≡ no_state_known) → value ≡ state_value id key frames
    value_there key value at_key no_key =
        let choice : (if is_among same_dims key (first_keys id frames) then last_state id key frames else
        no_state_known)
        ≡ state_value id key frames =
        sym (ap (λ b. if is_among same_dims key (if b then first_keys id frames else [])
        then last_state id key frames else no_state_known) in_book) in
        ⊎_elim
        (λ (among : is_among same_dims key (first_keys id frames) ≡ true).
        let has = Contains-from_is_among same_dims dims_exact (first_keys id frames) key among in
        let row = at_key (subst (λ ks. Contains ks key) (sym states_keys) has) in
        row_value (state_in (state_atoms frames) id) (first_keys id frames) row.0 key value
        (ap (λ (t : Table (List Leaf) ℤ). slice_get t.rows row.0) (sym are_states) ∙ row.1)
        ∙ sym (ap (λ b. if b then last_state id key frames else no_state_known) among) ∙ choice)
        (λ (other : is_among same_dims key (first_keys id frames) ≡ false).
        no_key (λ has. true≢false (sym (is_among-from_Contains same_dims dims_exact (first_keys id frames) key
        (subst (λ ks. Contains ks key) states_keys has)) ∙ other))
        ∙ sym (ap (λ b. if b then last_state id key frames else no_state_known) other) ∙ choice)
        (cases_Bool (is_among same_dims key (first_keys id frames)))
