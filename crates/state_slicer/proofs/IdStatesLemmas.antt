-- The states of an id after some atoms, and after one more.
use Rattle.std.proofs.Common.{◌≡◌, ℕ, ℤ, Bool, true, false, not, cond, ◌&&◌, ◌||◌, if◌then◌else◌, List, [], ◌∷◌, ◌++◌, Option, Some, None, map, filter, length, slice_get, ⊎_elim, refl, sym, ap, subst, ◌∙◌}
use Rattle.std.specs.Bool.{Decides}
use Rattle.std.specs.Cmp.Lexicographic.{pointwise_decides}
use Rattle.std.specs.List.{last_or}
use Rattle.std.proofs.lemmas.Bool.Decides.{Decides-eqb}
use Rattle.std.proofs.lemmas.List.{append-nil, map-append}
use Rattle.std.proofs.lemmas.List.Elements.{filter-append}
use Rattle.atom_record.specs.declared.value.Leaf.{Leaf}
use Rattle.atom_record.specs.declared.atom.Atom.{Atom}
use Rattle.atom_record.specs.Equal.{leaf_exact}
use Rattle.bucket_meaning.specs.Guard.{admitted, dropped}
use Rattle.bucket_meaning.specs.Kept.{count_in_u64}
use Rattle.dim_table.specs.Table.{Table, keys, with_value_at, IsNew, IsTurnedAway}
use Rattle.dim_table.proofs.RowLemmas.{rows_by}
use Rattle.book_meaning.specs.BookLimits.{most_state_keys}
use Rattle.book_meaning.specs.Snapshots.{same_atom_id}
use Rattle.book_meaning.specs.States.{same_dims, no_state_known, puts_back, told_state, primary_key, decides, state_by}
use Rattle.state_slicer.specs.StateTables.{put_back, IsTold, TakesAtom}
use Rattle.state_slicer.proofs.KeyedRowsLemmas.{rows_by-alike}
use Rattle.state_slicer.proofs.ArrivedTableLemmas.{table_for, now_at, now_new, now_away}

-- the tests decide
pub ids_exact : (x y : ℕ) → Decides (same_atom_id x y) (x ≡ y)
ids_exact x y = Decides-eqb x y

pub dims_exact : (x y : List Leaf) → Decides (same_dims x y) (x ≡ y)
dims_exact x y = pointwise_decides leaf_exact x y

-- the last of a list with one more
last-push : {A : Type 0} (first : Option A) (xs : List A) (x : A) → last_or first (xs ++ x ∷ []) ≡ Some x
last-push first [] x = refl
last-push first (y ∷ xs) x = last-push (Some y) xs x

module _ {A : Type 0} (p : A → Bool) (xs : List A) (x : A) where
  -- one more element that passes, and one that doesn't
  pub filter-one : p x ≡ true → filter p (xs ++ x ∷ []) ≡ filter p xs ++ x ∷ []
  filter-one passes = filter-append p xs (x ∷ []) ∙ ap (λ b. filter p xs ++ cond b (x ∷ []) []) passes

  pub filter-none : p x ≡ false → filter p (xs ++ x ∷ []) ≡ filter p xs
  filter-none fails = filter-append p xs (x ∷ []) ∙ ap (λ b. filter p xs ++ cond b (x ∷ []) []) fails
      ∙ append-nil (filter p xs)

-- what the last of these atoms that decides the state of a key says
abbrev pub state_in : List Atom → ℕ → List Leaf → ℤ
state_in atoms id key = state_by (last_or None (filter (decides id key) atoms))

-- an atom names a key of an id
abbrev pub names : ℕ → Atom → Bool
names id atom = same_atom_id atom.id id && not (puts_back atom)

-- the keys that these atoms name
abbrev pub named_in : List Atom → ℕ → List (List Leaf)
named_in atoms id = map primary_key (filter (names id) atoms)

-- the states of an id after these atoms
abbrev pub states_in : List Atom → ℕ → Table (List Leaf) ℤ
states_in atoms id = table_for same_dims dims_exact most_state_keys (state_in atoms id) (named_in atoms id)

-- rows whose states are put back
put_back-by : (value_of : List Leaf → ℤ) (after : List Leaf → ℤ) → ((key : List Leaf) → after key ≡ no_state_known)
    → (ks : List (List Leaf))
    → map (λ (row : List Leaf × ℤ). (row.0, no_state_known)) (rows_by value_of ks) ≡ rows_by after ks
put_back-by value_of after unknown [] = refl
put_back-by value_of after unknown (key ∷ ks) =
    ap (λ v. (key, v) ∷ map (λ (row : List Leaf × ℤ). (row.0, no_state_known)) (rows_by value_of ks))
    (sym (unknown key))
    ∙ ap (λ l. (key, after key) ∷ l) (put_back-by value_of after unknown ks)

module _ (atoms : List Atom) (atom : Atom) where
  abbrev more_atoms : List Atom
  more_atoms = atoms ++ atom ∷ []

  self : same_atom_id atom.id atom.id ≡ true
  self = (ids_exact atom.id atom.id).1 refl

  -- the states of other ids stay
  pub other_id : (other : ℕ) → same_atom_id atom.id other ≡ false → states_in more_atoms other ≡ states_in atoms other
  other_id other apart =
      let named : named_in more_atoms other ≡ named_in atoms other =
      ap (map primary_key) (filter-none (names other) atoms atom (ap (λ b. b && not (puts_back atom)) apart)) in
      ap (λ ks. table_for same_dims dims_exact most_state_keys (state_in more_atoms other) ks) named
      ∙ ap (λ rows. record {
        rows = rows;
        bound = most_state_keys;
        dropped = count_in_u64 (dropped same_dims most_state_keys (named_in atoms other));
      })
      (rows_by-alike (state_in more_atoms other) (state_in atoms other)
      (λ key. ap (λ l. state_by (last_or None l))
      (filter-none (decides other key) atoms atom
      (ap (λ b. b && (puts_back atom || same_dims (primary_key atom) key)) apart)))
      (admitted same_dims most_state_keys (named_in atoms other)))

  -- an atom that decides a key decides it last
  decided : (key : List Leaf) → decides atom.id key atom ≡ true → state_in more_atoms atom.id key ≡ state_by (Some atom)
  decided key does = ap (λ l. state_by (last_or None l)) (filter-one (decides atom.id key) atoms atom does)
      ∙ ap state_by (last-push None (filter (decides atom.id key) atoms) atom)

  module _ (back : puts_back atom ≡ true) where
    all_unknown : (key : List Leaf) → state_in more_atoms atom.id key ≡ no_state_known
    all_unknown key =
        decided key (ap (λ b. b && (puts_back atom || same_dims (primary_key atom) key)) self
        ∙ ap (λ b. b || same_dims (primary_key atom) key) back)
        ∙ ap (λ b. if b then no_state_known else told_state atom) back

    taken_back : put_back (states_in atoms atom.id) ≡ states_in more_atoms atom.id
    taken_back =
        let named : named_in more_atoms atom.id ≡ named_in atoms atom.id =
        ap (map primary_key) (filter-none (names atom.id) atoms atom
        (ap (λ b. b && not (puts_back atom)) self ∙ ap not back)) in
        ap (λ rows. record {
          rows = rows;
          bound = most_state_keys;
          dropped = count_in_u64 (dropped same_dims most_state_keys (named_in atoms atom.id));
        })
        (put_back-by (state_in atoms atom.id) (state_in more_atoms atom.id) all_unknown
        (admitted same_dims most_state_keys (named_in atoms atom.id)))
        ∙ ap (λ ks. table_for same_dims dims_exact most_state_keys (state_in more_atoms atom.id) ks) (sym named)

  module _ (tells : puts_back atom ≡ false) where
    told_key : state_in more_atoms atom.id (primary_key atom) ≡ told_state atom
    told_key =
        decided (primary_key atom)
        (ap (λ b. b && (puts_back atom || same_dims (primary_key atom) (primary_key atom))) self
        ∙ ap (λ b. b || same_dims (primary_key atom) (primary_key atom)) tells
        ∙ (dims_exact (primary_key atom) (primary_key atom)).1 refl)
        ∙ ap (λ b. if b then no_state_known else told_state atom) tells

    other_key : (other : List Leaf) → same_dims (primary_key atom) other ≡ false
        → state_in more_atoms atom.id other ≡ state_in atoms atom.id other
    other_key other apart =
        ap (λ l. state_by (last_or None l)) (filter-none (decides atom.id other) atoms atom
        (ap (λ b. b && (puts_back atom || same_dims (primary_key atom) other)) self
        ∙ ap (λ b. b || same_dims (primary_key atom) other) tells ∙ apart))

    named_more : named_in atoms atom.id ++ primary_key atom ∷ [] ≡ named_in more_atoms atom.id
    named_more = sym (ap (map primary_key) (filter-one (names atom.id) atoms atom
        (ap (λ b. b && not (puts_back atom)) self ∙ ap not tells))
        ∙ map-append primary_key (filter (names atom.id) atoms) (atom ∷ []))

    taken_told : (new : Table (List Leaf) ℤ)
        → IsTold (states_in atoms atom.id) new (primary_key atom) (told_state atom)
        → new ≡ states_in more_atoms atom.id
    taken_told new told =
        let before = state_in atoms atom.id in
        let after = state_in more_atoms atom.id in
        let arrived = named_in atoms atom.id in
        let key = primary_key atom in
        let last : table_for same_dims dims_exact most_state_keys after (arrived ++ key ∷ [])
        ≡ states_in more_atoms atom.id =
        ap (λ ks. table_for same_dims dims_exact most_state_keys after ks) named_more in
        ⊎_elim
        (λ (at : (place : ℕ) × (slice_get (keys (states_in atoms atom.id)) place ≡ Some key)
        × (new ≡ with_value_at (states_in atoms atom.id) place (told_state atom))).
        at.2 ∙ ap (with_value_at (states_in atoms atom.id) at.0) (sym told_key)
        ∙ now_at same_dims dims_exact most_state_keys before after arrived key other_key at.0 at.1 ∙ last)
        (λ others. ⊎_elim
        (λ (added : IsNew (states_in atoms atom.id) new key (told_state atom) (length (states_in atoms atom.id).rows)).
        now_new same_dims dims_exact most_state_keys before after arrived key other_key new
        (length (states_in atoms atom.id).rows)
        (subst (λ s. IsNew (states_in atoms atom.id) new key s (length (states_in atoms atom.id).rows))
        (sym told_key) added) ∙ last)
        (λ (away : IsTurnedAway (states_in atoms atom.id) new key).
        now_away same_dims dims_exact most_state_keys before after arrived key other_key new away ∙ last)
        others)
        told

  -- the states of its id after the atom
  pub taken : (new : Table (List Leaf) ℤ) → TakesAtom (states_in atoms atom.id) new atom
      → new ≡ states_in more_atoms atom.id
  taken new takes = ⊎_elim
      (λ (back : (puts_back atom ≡ true) × (new ≡ put_back (states_in atoms atom.id))). back.1 ∙ taken_back back.0)
      (λ (told : (puts_back atom ≡ false)
      × IsTold (states_in atoms atom.id) new (primary_key atom) (told_state atom)). taken_told told.0 new told.1)
      takes
