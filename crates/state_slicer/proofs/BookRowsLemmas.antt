-- For the calls of a book: what its table says of the row of an id that took an atom.
use Rattle.std.proofs.Common.{◌≡◌, ℕ, ℤ, List, Some, Result, Ok, Err, OnOk, OnErr, length, slice_get, Contains, inl, inr, ⊎_elim, refl, sym, ap, subst, ◌∙◌, arith}
use Rattle.std.specs.Map.{values_of}
use Rattle.atom_record.specs.declared.value.Leaf.{Leaf}
use Rattle.atom_record.specs.declared.atom.Atom.{Atom}
use Rattle.dim_table.specs.declared.answer.Admit.{Admit}
use Rattle.dim_table.specs.declared.answer.Admit.TheVariants.{At, Full}
use Rattle.dim_table.specs.Table.{Table, keys, with_value_at, IsThere, IsNew, IsTurnedAway, Admits}
use Rattle.dim_table.proofs.KeyLemmas.{Contains-from_place}
use Rattle.state_slicer.specs.StateTables.{TakesAtom}
use Rattle.state_slicer.specs.StateBooks.{IsTakenAt, IsTakenFirst, no_states}
use Rattle.state_slicer.proofs.KeyedRowsLemmas.{set_same, row_at}

-- where the states of an id took an atom, it is taken at their place
pub ok_taken_at : {X E : Type 0} (ids book : Table ℕ (Table (List Leaf) ℤ)) → ids ≡ book → (place : ℕ) (atom : Atom)
    → slice_get (keys book) place ≡ Some atom.id → (before after : Table (List Leaf) ℤ)
    → Some before ≡ slice_get (values_of ids.rows) place → (result : Result X E)
    → OnOk result (TakesAtom before after atom)
    → OnOk result (IsTakenAt book (with_value_at ids place after) place atom)
ok_taken_at ids book same place atom there before after was (Ok x) takes =
    let at : slice_get (keys ids) place ≡ Some atom.id =
    ap (λ (table : Table ℕ (Table (List Leaf) ℤ)). slice_get (keys table) place) same ∙ there in (
      before,
      after,
      ap (λ (table : Table ℕ (Table (List Leaf) ℤ)). slice_get table.rows place) (sym same)
          ∙ row_at ids.rows place atom.id before at was,
      takes,
      ap (λ table. with_value_at table place after) same,
    )
ok_taken_at ids book same place atom there before after was (Err e) takes = tt

-- where the states of an id could not take an atom, the table is as before
pub err_same : {X E : Type 0} (ids book : Table ℕ (Table (List Leaf) ℤ)) → ids ≡ book → (place : ℕ)
    → (before after : Table (List Leaf) ℤ) → Some before ≡ slice_get (values_of ids.rows) place
    → (result : Result X E) → OnErr result (after ≡ before) → OnErr result (with_value_at ids place after ≡ book)
err_same ids book same place before after was (Ok x) err = tt
err_same ids book same place before after was (Err e) err =
    ap (with_value_at ids place) err
    ∙ ap (λ rows. record ids { rows = rows }) (set_same ids.rows place before was) ∙ same

module _ (ids book new : Table ℕ (Table (List Leaf) ℤ)) (same : ids ≡ book) (key : ℕ) (atom : Atom)
    (named : key ≡ atom.id) (absent : ¬ Contains (keys book) atom.id) where
  not_there : ¬ Contains (keys ids) key
  not_there = subst (λ k. ¬ Contains (keys ids) k) (sym named)
      (subst (λ table. ¬ Contains (keys table) atom.id) (sym same) absent)

  as_book : (P : Table ℕ (Table (List Leaf) ℤ) → ℕ → Type 0) → P ids key → P book atom.id
  as_book P holds = subst (P book) named (subst (λ table. P table key) same holds)

  -- a new id finds room, or is counted
  pub first_admitted : (states : Table (List Leaf) ℤ) → TakesAtom no_states states atom → (answer : Admit)
      → Admits ids new key states answer → IsTakenFirst book new atom
  first_admitted states takes (At place) admits = ⊎_elim
      (λ (there : IsThere ids new key place). absurd (not_there (Contains-from_place (keys ids) place key there.at)))
      (λ (added : IsNew ids new key states place).
      inl (
        states,
        takes,
        as_book (λ table id. IsNew table new id states (length table.rows))
            (record { absent = added.absent; room = added.room; last = refl; added = added.added }),
      ))
      admits
  first_admitted states takes Full admits = inr (as_book (λ table id. IsTurnedAway table new id) admits)

  -- where there is no room it is counted
  pub first_away : (states : Table (List Leaf) ℤ) → length ids.rows ≡ ids.bound → (answer : Admit)
      → Admits ids new key states answer → IsTakenFirst book new atom
  first_away states full (At place) admits = ⊎_elim
      (λ (there : IsThere ids new key place). absurd (not_there (Contains-from_place (keys ids) place key there.at)))
      (λ (added : IsNew ids new key states place). absurd (let room = added.room in omega (arith, full, room)))
      admits
  first_away states full Full admits = inr (as_book (λ table id. IsTurnedAway table new id) admits)
