-- The kept ids and what their last pulls gave, one more frame at a time: for the proofs of callers, too.
use Rattle.std.proofs.Common.{◌≡◌, ℕ, zero, suc, ◌<◌, ◌≤◌, Bool, true, false, ◌&&◌, ◌||◌, nat_lt, List, [], ◌∷◌, ◌++◌, Option, Some, None, Result, Ok, Err, OnOk, map, length, slice_get, Contains, All, IfSome, Bor, refl, sym, ap, subst, ◌∙◌, arith, if◌then◌else◌, ⊎_elim}
use Rattle.std.specs.Bool.{Decides}
use Rattle.std.specs.List.{last_or}
use Rattle.std.specs.Map.{keys_of}
use Rattle.std.specs.Option.{option_map}
use Rattle.std.proofs.lemmas.Bool.{cases_lt, lt-ltb, le-ltb}
use Rattle.std.proofs.lemmas.Bool.Decides.{Decides-eqb}
use Rattle.std.proofs.lemmas.List.{append-nil, map-append}
use Rattle.std.proofs.lemmas.List.Concat.{flat_map-append}
use Rattle.std.proofs.lemmas.List.Elements.{All-cons, All-head, All-tail}
use Rattle.std.proofs.lemmas.Option.{none-some, same_Some, slice_get-map, slice_get_within, get_or_from_slice_get}
use Rattle.indexmap.specs.Layout.{set_value_at}
use Rattle.atom_record.specs.declared.atom.Atom.{Atom}
use Rattle.atom_record.specs.declared.log.LogFrame.{LogFrame}
use Rattle.atom_record.specs.declared.log.LogFrame.TheVariants.{Pull}
use Rattle.atom_record.specs.declared.log.PullOutcome.{PullOutcome}
use Rattle.atom_record.specs.declared.log.PullOutcome.TheVariants.{Atoms, Failed}
use Rattle.atom_record.specs.Pulled.{IsPulled, is_pull_id}
use Rattle.bucket_meaning.specs.Guard.{is_among, admitted, of_key, arrival_key}
use Rattle.bucket_meaning.proofs.GuardLemmas.{of_key-push, is_among-push, admitted_present, admitted_new, admitted_full, admitted-distinct}
use Rattle.dim_table.specs.Table.{Table, with_value_at}
use Rattle.dim_table.proofs.KeyLemmas.{Contains-from_place, is_among-from_Contains, not_among}
use Rattle.dim_table.proofs.RowLemmas.{rows_by, rows_by-push, rows_by-absent, set_value_at-rows_by}
use Rattle.book_meaning.specs.BookLimits.{most_pulled_ids}
use Rattle.book_meaning.specs.Snapshots.{same_atom_id, pull_in, pulls_of, outcome_or_failed, last_outcome, atoms_in, snapshot_of, is_kept_next}
use Rattle.pull_book.specs.PullBooks.{IsSnapshotAtom, IsRecordable, IsKeptRow, IsPullTable, PullBookStandsFor, TakesPull, IsAppended}

-- the test on ids decides
pub same_atom_id-exact : (x y : ℕ) → Decides (same_atom_id x y) (x ≡ y)
same_atom_id-exact x y = Decides-eqb x y

last_or-push : {A : Type 0} (first : Option A) (xs : List A) (x : A) → last_or first (xs ++ x ∷ []) ≡ Some x
last_or-push first [] x = refl
last_or-push first (y ∷ xs) x = last_or-push (Some y) xs x

-- the pulls with one more frame
pub pulls_of-push : (frames : List LogFrame) (frame : LogFrame)
    → pulls_of (frames ++ frame ∷ []) ≡ pulls_of frames ++ pull_in frame
pulls_of-push frames frame =
    flat_map-append pull_in frames (frame ∷ []) ∙ ap (λ l. pulls_of frames ++ l) (append-nil (pull_in frame))

-- the kept ids of these pulls
abbrev ids_in : List (ℕ × PullOutcome) → List ℕ
ids_in pulls = admitted same_atom_id most_pulled_ids (map arrival_key pulls)

-- what the last of these pulls with an id gave
abbrev outcome_in : List (ℕ × PullOutcome) → ℕ → PullOutcome
outcome_in pulls id = outcome_or_failed (last_or None (of_key same_atom_id id pulls))

-- both
abbrev rows_in : List (ℕ × PullOutcome) → List (ℕ × PullOutcome)
rows_in pulls = map (λ id. (id, outcome_in pulls id)) (ids_in pulls)

module _ (pulls : List (ℕ × PullOutcome)) (id : ℕ) (outcome : PullOutcome) where
  abbrev more : List (ℕ × PullOutcome)
  more = pulls ++ (id, outcome) ∷ []

  keys_more : map arrival_key more ≡ map arrival_key pulls ++ id ∷ []
  keys_more = map-append arrival_key pulls ((id, outcome) ∷ [])

  -- the pull is the last one of its id
  last_here : outcome_in more id ≡ outcome
  last_here =
      ap (λ l. outcome_or_failed (last_or None l))
      (of_key-push same_atom_id id pulls (id, outcome)
      ∙ ap (λ b. of_key same_atom_id id pulls ++ (if b then outcome ∷ [] else [])) ((same_atom_id-exact id id).1 refl))
      ∙ ap outcome_or_failed (last_or-push None (of_key same_atom_id id pulls) outcome)

  -- other ids keep what their last pull gave
  others_keep : (other : ℕ) → same_atom_id id other ≡ false → outcome_in more other ≡ outcome_in pulls other
  others_keep other apart =
      ap (λ l. outcome_or_failed (last_or None l))
      (of_key-push same_atom_id other pulls (id, outcome)
      ∙ ap (λ b. of_key same_atom_id other pulls ++ (if b then outcome ∷ [] else [])) apart
      ∙ append-nil (of_key same_atom_id other pulls))

  -- an id that is kept already
  ids_present : Contains (ids_in pulls) id → ids_in more ≡ ids_in pulls
  ids_present there =
      ap (admitted same_atom_id most_pulled_ids) keys_more
      ∙ admitted_present same_atom_id most_pulled_ids (map arrival_key pulls) id
      (is_among-from_Contains same_atom_id same_atom_id-exact (ids_in pulls) id there)

  -- a new id that finds room
  ids_new : ¬ Contains (ids_in pulls) id → length (ids_in pulls) < most_pulled_ids
      → ids_in more ≡ ids_in pulls ++ id ∷ []
  ids_new absent room =
      ap (admitted same_atom_id most_pulled_ids) keys_more
      ∙ admitted_new same_atom_id most_pulled_ids (map arrival_key pulls) id
      (not_among same_atom_id same_atom_id-exact (ids_in pulls) id absent) room

  -- an id that comes when there is no room
  ids_full : most_pulled_ids ≤ length (ids_in pulls) → ids_in more ≡ ids_in pulls
  ids_full full =
      ap (admitted same_atom_id most_pulled_ids) keys_more
      ∙ admitted_full same_atom_id most_pulled_ids (map arrival_key pulls) id full

  -- the rows, in each of these cases
  rows_present : (place : ℕ) → slice_get (ids_in pulls) place ≡ Some id
      → set_value_at (rows_in pulls) place outcome ≡ rows_in more
  rows_present place at =
      ap (set_value_at (rows_in pulls) place) (sym last_here)
      ∙ set_value_at-rows_by same_atom_id same_atom_id-exact (outcome_in pulls) (outcome_in more) (ids_in pulls)
      place id (admitted-distinct same_atom_id most_pulled_ids (map arrival_key pulls)) at others_keep
      ∙ ap (rows_by (outcome_in more)) (sym (ids_present (Contains-from_place (ids_in pulls) place id at)))

  module _ (absent : ¬ Contains (ids_in pulls) id) where
    old_rows : rows_in pulls ≡ rows_by (outcome_in more) (ids_in pulls)
    old_rows = rows_by-absent same_atom_id same_atom_id-exact (outcome_in pulls) (outcome_in more) id (ids_in pulls)
        absent others_keep

    rows_new : length (ids_in pulls) < most_pulled_ids → rows_in pulls ++ (id, outcome) ∷ [] ≡ rows_in more
    rows_new room =
        ap (λ l. l ++ (id, outcome) ∷ []) old_rows
        ∙ ap (λ o. rows_by (outcome_in more) (ids_in pulls) ++ (id, o) ∷ []) (sym last_here)
        ∙ sym (rows_by-push (outcome_in more) (ids_in pulls) id)
        ∙ ap (rows_by (outcome_in more)) (sym (ids_new absent room))

    rows_full : most_pulled_ids ≤ length (ids_in pulls) → rows_in pulls ≡ rows_in more
    rows_full full = old_rows ∙ ap (rows_by (outcome_in more)) (sym (ids_full full))

-- the keys of rows that are made by key
keys_of-rows_by : {K V : Type 0} (value_of : K → V) (ks : List K) → keys_of (rows_by value_of ks) ≡ ks
keys_of-rows_by value_of [] = refl
keys_of-rows_by value_of (key ∷ ks) = ap (λ l. key ∷ l) (keys_of-rows_by value_of ks)

length-rows_by : {K V : Type 0} (value_of : K → V) (ks : List K) → length (rows_by value_of ks) ≡ length ks
length-rows_by value_of [] = refl
length-rows_by value_of (key ∷ ks) = let rest = length-rows_by value_of ks in omega arith

-- what holds of all rows holds of the one at a place
pub All-at_place : {X : Type 0} (P : X → Type 0) (xs : List X) (place : ℕ) (x : X) → slice_get xs place ≡ Some x
    → All P xs → P x
All-at_place P xs place x at all =
    subst P (get_or_from_slice_get xs place x x at) (all place x (slice_get_within xs place x at))

key_at : {K V : Type 0} (rows : List (K × V)) (place : ℕ) (row : K × V) → slice_get rows place ≡ Some row
    → slice_get (keys_of rows) place ≡ Some row.0
key_at [] place row at = absurd (none-some row at)
key_at (first ∷ rows) zero row at = ap (λ r. Some r.0) (same_Some first row at)
key_at (first ∷ rows) (suc place) row at = key_at rows place row at

or_true : (b : Bool) → (b || true) ≡ true
or_true true = refl
or_true false = refl

-- where a key stands, so does its row
row_there : {K V : Type 0} (rows : List (K × V)) (place : ℕ) (key : K) → slice_get (keys_of rows) place ≡ Some key
    → ¬ (slice_get rows place ≡ None)
row_there [] place key at none = none-some key at
row_there (row ∷ rows) zero key at none = none-some row (sym none)
row_there (row ∷ rows) (suc place) key at none = row_there rows place key at none

-- a row of these with another outcome is kept where that outcome may be recorded
All-set_value_at : (rows : List (ℕ × PullOutcome)) (place id : ℕ) (outcome : PullOutcome)
    → slice_get (keys_of rows) place ≡ Some id → IsKeptRow (id, outcome) → All IsKeptRow rows
    → All IsKeptRow (set_value_at rows place outcome)
All-set_value_at [] place id outcome at kept all = all
All-set_value_at (row ∷ rows) zero id outcome at kept all =
    All-cons IsKeptRow (row.0, outcome) rows (subst (λ k. IsKeptRow (k, outcome)) (sym (same_Some row.0 id at)) kept)
    (All-tail IsKeptRow row rows all)
All-set_value_at (row ∷ rows) (suc place) id outcome at kept all =
    All-cons IsKeptRow row (set_value_at rows place outcome) (All-head IsKeptRow row rows all)
    (All-set_value_at rows place id outcome at kept (All-tail IsKeptRow row rows all))

-- the table with another outcome in a row
pub replaced : (table : Table ℕ PullOutcome) (place id : ℕ) (outcome : PullOutcome)
    → slice_get (keys_of table.rows) place ≡ Some id → IsKeptRow (id, outcome) → IsPullTable table
    → IsPullTable (with_value_at table place outcome)
replaced table place id outcome at kept valid = record {
  bound = valid.bound;
  none_dropped = valid.none_dropped;
  rows_kept = All-set_value_at table.rows place id outcome at kept valid.rows_kept;
}

-- a frame that is no pull of a pulled id leaves the book
pub PullBookStandsFor-other : (book : List (ℕ × PullOutcome)) (frames : List LogFrame) (frame : LogFrame)
    → pull_in frame ≡ [] → PullBookStandsFor book frames → PullBookStandsFor book (frames ++ frame ∷ [])
PullBookStandsFor-other book frames frame none stands = record {
  outcomes = stands.outcomes
      ∙ ap rows_in (sym (append-nil (pulls_of frames)) ∙ ap (λ l. pulls_of frames ++ l) (sym none)
      ∙ sym (pulls_of-push frames frame));
}

module _ (frames : List LogFrame) (at id : ℕ) (outcome : PullOutcome) where
  abbrev later : List LogFrame
  later = frames ++ Pull at id outcome ∷ []

  -- the pulls with one more of a pulled id, and of an id that isn't pulled
  one_pull : is_pull_id id ≡ true → pulls_of later ≡ pulls_of frames ++ (id, outcome) ∷ []
  one_pull pulled = pulls_of-push frames (Pull at id outcome)
      ∙ ap (λ b. pulls_of frames ++ (if b then (id, outcome) ∷ [] else [])) pulled

  no_pull : is_pull_id id ≡ false → pulls_of later ≡ pulls_of frames
  no_pull other = pulls_of-push frames (Pull at id outcome)
      ∙ ap (λ b. pulls_of frames ++ (if b then (id, outcome) ∷ [] else [])) other ∙ append-nil (pulls_of frames)

module _ (book : List (ℕ × PullOutcome)) (id : ℕ) where
  -- a pull of an id that isn't pulled changes nothing
  pub takes_unpulled : (outcome : PullOutcome) → is_pull_id id ≡ false → TakesPull book book id outcome
  takes_unpulled outcome other frames at stands = record {
    outcomes = stands.outcomes ∙ ap rows_in (sym (no_pull frames at id outcome other));
  }

  ids_stand : (frames : List LogFrame) → PullBookStandsFor book frames → keys_of book ≡ ids_in (pulls_of frames)
  ids_stand frames stands = ap keys_of stands.outcomes
      ∙ keys_of-rows_by (outcome_in (pulls_of frames)) (ids_in (pulls_of frames))

  length_stands : (frames : List LogFrame) → PullBookStandsFor book frames
      → length book ≡ length (ids_in (pulls_of frames))
  length_stands frames stands = ap length stands.outcomes
      ∙ length-rows_by (outcome_in (pulls_of frames)) (ids_in (pulls_of frames))

  -- a pull of a kept id
  pub takes_present : (place : ℕ) (outcome : PullOutcome) → is_pull_id id ≡ true
      → slice_get (keys_of book) place ≡ Some id → TakesPull book (set_value_at book place outcome) id outcome
  takes_present place outcome pulled there frames at stands = record {
    outcomes = ap (λ rows. set_value_at rows place outcome) stands.outcomes
        ∙ rows_present (pulls_of frames) id outcome place
        (ap (λ ids. slice_get ids place) (sym (ids_stand frames stands)) ∙ there)
        ∙ ap rows_in (sym (one_pull frames at id outcome pulled));
  }

  module _ (absent : ¬ Contains (keys_of book) id) where
    not_kept : (frames : List LogFrame) → PullBookStandsFor book frames → ¬ Contains (ids_in (pulls_of frames)) id
    not_kept frames stands = subst (λ ids. ¬ Contains ids id) (ids_stand frames stands) absent

    -- a pull of another pulled id
    pub takes_new : (new : List (ℕ × PullOutcome)) (outcome : PullOutcome) → is_pull_id id ≡ true
        → IsAppended book new id outcome → TakesPull book new id outcome
    takes_new new outcome pulled appended frames at stands =
        let size = length_stands frames stands in
        ⊎_elim
        (λ (kept : (length book < most_pulled_ids) × (new ≡ book ++ (id, outcome) ∷ [])). record {
          outcomes = kept.1 ∙ ap (λ rows. rows ++ (id, outcome) ∷ []) stands.outcomes
              ∙ rows_new (pulls_of frames) id outcome (not_kept frames stands) (omega (arith, size, kept.0))
              ∙ ap rows_in (sym (one_pull frames at id outcome pulled));
        })
        (λ (full : (length book ≡ most_pulled_ids) × (new ≡ book)). record {
          outcomes = full.1 ∙ stands.outcomes
              ∙ rows_full (pulls_of frames) id outcome (not_kept frames stands) (omega (arith, size, full.0))
              ∙ ap rows_in (sym (one_pull frames at id outcome pulled));
        })
        appended

    -- and so where it succeeds
    pub ok_takes_new : {X E : Type 0} (new : List (ℕ × PullOutcome)) (moved outcome : PullOutcome) → moved ≡ outcome
        → is_pull_id id ≡ true → (result : Result X E) → OnOk result (IsAppended book new id moved)
        → OnOk result (TakesPull book new id outcome)
    ok_takes_new new moved outcome same pulled (Ok x) appended =
        takes_new new outcome pulled (subst (IsAppended book new id) same appended)
    ok_takes_new new moved outcome same pulled (Err e) appended = tt

    -- an id without a place has no snapshot
    pub no_snapshot : (frames : List LogFrame) → PullBookStandsFor book frames → None ≡ snapshot_of id frames
    no_snapshot frames stands =
        ap (λ b. if b then atoms_in (last_outcome id frames) else None)
        (sym (not_among same_atom_id same_atom_id-exact (ids_in (pulls_of frames)) id (not_kept frames stands)))

    -- a pull of it that comes next is kept where the id is pulled and there is room
    pub next_new : (frames : List LogFrame) → PullBookStandsFor book frames → (pulled : Bool)
        → is_pull_id id ≡ pulled → (pulled && nat_lt (length book) most_pulled_ids) ≡ is_kept_next id frames
    next_new frames stands false other =
        sym (ap (λ pulls. is_among same_atom_id id (ids_in pulls)) (no_pull frames 0 id Failed other)
        ∙ not_among same_atom_id same_atom_id-exact (ids_in (pulls_of frames)) id (not_kept frames stands))
    next_new frames stands true pulled =
        let size = length_stands frames stands in
        let ids = ids_in (pulls_of frames) in
        let next : is_kept_next id frames ≡ is_among same_atom_id id (ids_in (pulls_of frames ++ (id, Failed) ∷ [])) =
        ap (λ pulls. is_among same_atom_id id (ids_in pulls)) (one_pull frames 0 id Failed pulled) in
        ⊎_elim
        (λ (room : length book < most_pulled_ids).
        lt-ltb (length book) most_pulled_ids room
        ∙ sym (next
        ∙ ap (is_among same_atom_id id) (ids_new (pulls_of frames) id Failed (not_kept frames stands)
        (omega (arith, size, room)))
        ∙ is_among-push same_atom_id id ids id
        ∙ ap (λ b. is_among same_atom_id id ids || b) ((same_atom_id-exact id id).1 refl)
        ∙ or_true (is_among same_atom_id id ids)))
        (λ (full : most_pulled_ids ≤ length book).
        le-ltb (length book) most_pulled_ids full
        ∙ sym (next
        ∙ ap (is_among same_atom_id id) (ids_full (pulls_of frames) id Failed (omega (arith, size, full)))
        ∙ not_among same_atom_id same_atom_id-exact ids id (not_kept frames stands)))
        (cases_lt (length book) most_pulled_ids)

  module _ (place : ℕ) (there : slice_get (keys_of book) place ≡ Some id) where
    kept_at : (frames : List LogFrame) → PullBookStandsFor book frames
        → slice_get (ids_in (pulls_of frames)) place ≡ Some id
    kept_at frames stands = ap (λ ids. slice_get ids place) (sym (ids_stand frames stands)) ∙ there

    is_kept : (frames : List LogFrame) → PullBookStandsFor book frames
        → is_among same_atom_id id (ids_in (pulls_of frames)) ≡ true
    is_kept frames stands = is_among-from_Contains same_atom_id same_atom_id-exact (ids_in (pulls_of frames)) id
        (Contains-from_place (ids_in (pulls_of frames)) place id (kept_at frames stands))

    -- what stands in the row of an id is its snapshot
    pub snapshot_there : (key : ℕ) (outcome : PullOutcome) → slice_get book place ≡ Some (key, outcome)
        → (frames : List LogFrame) → PullBookStandsFor book frames → atoms_in outcome ≡ snapshot_of id frames
    snapshot_there key outcome row frames stands =
        let here : slice_get book place ≡ Some (id, last_outcome id frames) =
        ap (λ rows. slice_get rows place) stands.outcomes
        ∙ slice_get-map (λ k. (k, last_outcome k frames)) (ids_in (pulls_of frames)) place
        ∙ ap (option_map (λ k. (k, last_outcome k frames))) (kept_at frames stands) in
        let same = same_Some {A = ℕ × PullOutcome} (key, outcome) (id, last_outcome id frames) (sym row ∙ here) in
        ap (λ r. atoms_in r.1) same
        ∙ ap (λ b. if b then atoms_in (last_outcome id frames) else None) (sym (is_kept frames stands))

    -- where a key has a place there is a row
    pub never_none : (frames : List LogFrame) → None ≡ slice_get book place → None ≡ snapshot_of id frames
    never_none frames none = absurd (row_there book place id there (sym none))

    -- a pull of it that comes next is kept
    pub next_there : (frames : List LogFrame) → PullBookStandsFor book frames → true ≡ is_kept_next id frames
    next_there frames stands = by (is_pull_id id) refl
      where
        by : (b : Bool) → is_pull_id id ≡ b → true ≡ is_kept_next id frames
        by false other = sym (ap (λ pulls. is_among same_atom_id id (ids_in pulls)) (no_pull frames 0 id Failed other)
            ∙ is_kept frames stands)
        by true pulled = sym (ap (λ pulls. is_among same_atom_id id (ids_in pulls)) (one_pull frames 0 id Failed pulled)
            ∙ ap (is_among same_atom_id id) (ids_present (pulls_of frames) id Failed
            (Contains-from_place (ids_in (pulls_of frames)) place id (kept_at frames stands)))
            ∙ is_kept frames stands)

    -- the row's key is the id, and its outcome may be recorded
    pub row_kept : (key : ℕ) (outcome : PullOutcome) → slice_get book place ≡ Some (key, outcome)
        → All IsKeptRow book → IsKeptRow (id, outcome)
    row_kept key outcome row all =
        let same : key ≡ id = same_Some key id (sym (key_at book place (key, outcome) row) ∙ there) in
        subst (λ k. IsKeptRow (k, outcome)) same (All-at_place IsKeptRow book place (key, outcome) row all)

    pub id_pulled : All IsKeptRow book → IsPulled id
    id_pulled all = by (slice_get book place) refl
      where
        by : (row : Option (ℕ × PullOutcome)) → slice_get book place ≡ row → IsPulled id
        by None none = absurd (row_there book place id there none)
        by (Some row) at = (row_kept row.0 row.1 at all).0

-- what a book's table says of an id, said of the book
module _ (rows book : List (ℕ × PullOutcome)) (same : rows ≡ book) (key id : ℕ) (named : key ≡ id) where
  pub there_in : (place : ℕ) → slice_get (keys_of rows) place ≡ Some key → slice_get (keys_of book) place ≡ Some id
  there_in place at = ap (λ l. slice_get (keys_of l) place) (sym same) ∙ at ∙ ap Some named

  pub absent_in : ¬ Contains (keys_of rows) key → ¬ Contains (keys_of book) id
  absent_in absent = subst (λ k. ¬ Contains (keys_of book) k) named
      (subst (λ l. ¬ Contains (keys_of l) key) same absent)

-- the atoms that are lent may stand in a snapshot of the id
pub atoms_sound : (id : ℕ) (lent : Option (Bor (List Atom))) (outcome : PullOutcome)
    → option_map (λ s. s.now) lent ≡ atoms_in outcome → IsRecordable id outcome
    → IfSome lent (λ s. All (IsSnapshotAtom id) s.now)
atoms_sound id None outcome is sound = tt
atoms_sound id (Some lent) Failed is sound = absurd (none-some lent.now (sym is))
atoms_sound id (Some lent) (Atoms atoms) is sound =
    subst (All (IsSnapshotAtom id)) (sym (same_Some lent.now atoms is)) sound
