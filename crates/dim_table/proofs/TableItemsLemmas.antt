-- Rows that stand one after the other, and the table that is built from them.
use Rattle.std.proofs.Common.{◌≡◌, ◌≢◌, ℕ, suc, ◌+◌, ◌<◌, ◌≤◌, true, false, List, [], ◌∷◌, ◌++◌, length, take, All, AllPairs, Option, Some, None, Result, Ok, Err, slice_get, get_or, Contains, IfSome, IfNone, is_some, ⊎_elim, refl, sym, ap, subst, ◌∙◌, append_assoc, arith, inl, inr}
use Rattle.std.specs.List.{flat_map}
use Rattle.std.specs.Map.{keys_of}
use Rattle.std.proofs.lemmas.Bool.{true≢false, false≢true}
use Rattle.std.proofs.lemmas.List.{append-nil, length-append, take_more, take_all, get_or_append_left, get_or-append-add}
use Rattle.std.proofs.lemmas.List.Concat.{flat_map-append}
use Rattle.std.proofs.lemmas.List.Elements.{All-push, Contains-get_or}
use Rattle.std.proofs.lemmas.List.Quantifiers.{all_pairs_push}
use Rattle.std.proofs.lemmas.Option.{slice_get_within, slice_get_cases, get_or_from_slice_get}
use Rattle.flat_form.specs.declared.item.Item.{Item}
use Rattle.flat_form.specs.declared.flat_error.FlatError.{FlatError}
use Rattle.flat_form.specs.declared.flat_error.FlatError.TheVariants.{Bad, Memory}
use Rattle.flat_form.specs.Flat.{Anything, IsFront, IsValidPair, StandsAt, IsBuilt, Builds, AreBuilt, number_items, pair_items}
use Rattle.flat_form.proofs.FlatLaws as laws
use Rattle.dim_table.specs.declared.answer.Admit.{Admit}
use Rattle.dim_table.specs.declared.answer.Admit.TheVariants.{At, Full}
use Rattle.dim_table.specs.Table.{Table, keys, IsBounded, IsThere, IsNew, Admits}
use Rattle.dim_table.specs.TableItems.{table_items, IsTable, AreRows, BuildsRows}
use Rattle.dim_table.proofs.KeyLemmas.{keys_of-push, Contains-from_place}

-- one more row was added
pub rows_more : {X : Type 0} (valid : X → Type 0) (flat : X → List Item) (rows : List X) (place : ℕ) (row : X)
    (old out new : List Item)
    → slice_get rows place ≡ Some row → out ≡ old ++ flat_map flat (take place rows) → All valid (take place rows)
    → new ≡ out ++ flat row → valid row
    → (new ≡ old ++ flat_map flat (take (place + 1) rows)) × All valid (take (place + 1) rows)
rows_more valid flat rows place row old out new at before all added valid_row =
    let is : take (place + 1) rows ≡ take place rows ++ row ∷ [] =
    take_more rows place row (slice_get_within rows place row at)
    ∙ ap (λ r. take place rows ++ r ∷ []) (get_or_from_slice_get rows place row row at) in
    let items : flat_map flat (take (place + 1) rows) ≡ flat_map flat (take place rows) ++ flat row =
    ap (flat_map flat) is ∙ flat_map-append flat (take place rows) (row ∷ [])
    ∙ ap (λ l. flat_map flat (take place rows) ++ l) (append-nil (flat row)) in (
      added ∙ ap (λ l. l ++ flat row) before ∙ append_assoc old (flat_map flat (take place rows)) (flat row)
          ∙ ap (λ l. old ++ l) (sym items),
      subst (All valid) (sym is) (All-push valid (take place rows) row all valid_row),
    )

-- one more row is valid
pub valid_more : {X : Type 0} (valid : X → Type 0) (rows : List X) (place : ℕ) (row : X)
    → slice_get rows place ≡ Some row → All valid (take place rows) → valid row → All valid (take (place + 1) rows)
valid_more valid rows place row at all valid_row =
    let is : take (place + 1) rows ≡ take place rows ++ row ∷ [] =
    take_more rows place row (slice_get_within rows place row at)
    ∙ ap (λ r. take place rows ++ r ∷ []) (get_or_from_slice_get rows place row row at) in
    subst (All valid) (sym is) (All-push valid (take place rows) row all valid_row)

-- past the last row nothing stands
pub past_rows : {X : Type 0} (rows : List X) (place : ℕ) → slice_get rows place ≡ None → length rows ≤ place
past_rows rows place none = elim ((slice_get_cases rows place).1) [ inl h ↦ absurd (cc (h.2)) | inr h ↦ h.0 ]

-- all rows are valid, where those up to their end are
pub valid_all : {X : Type 0} (valid : X → Type 0) (rows : List X) (place : ℕ)
    → length rows ≤ place → All valid (take place rows) → All valid rows
valid_all valid rows place end all = subst (All valid) (take_all place rows end) all

-- the items of all rows were added, where those of the rows up to their end were
pub added_all : {X : Type 0} (flat : X → List Item) (rows : List X) (place : ℕ) (old out : List Item)
    → length rows ≤ place → out ≡ old ++ flat_map flat (take place rows) → out ≡ old ++ flat_map flat rows
added_all flat rows place old out end added =
    added ∙ ap (λ (l : List _). old ++ flat_map flat l) (take_all place rows end)

-- what was added before a fault stands in front
pub front_more : (old out new more : List Item) → out ≡ old ++ more → IsFront out new → IsFront old new
front_more old out new more added front = record {
  more = more ++ front.more;
  parts = front.parts ∙ ap (λ l. l ++ front.more) added ∙ append_assoc old more front.more;
}

-- a key that has a place is there, and one without a place isn't
pub there_from_is_some : {K : Type 0} (ks : List K) (key : K) (place : Option ℕ) → is_some place ≡ true
    → IfSome place (λ at. slice_get ks at ≡ Some key) → Contains ks key
there_from_is_some ks key None some at = absurd (false≢true some)
there_from_is_some ks key (Some place) some at = Contains-from_place ks place key at

-- a key without a place is not there
pub absent_from_is_none : {K : Type 0} (ks : List K) (key : K) (place : Option ℕ) → is_some place ≡ false
    → IfNone place (¬ Contains ks key) → ¬ Contains ks key
absent_from_is_none ks key None none absent = absent
absent_from_is_none ks key (Some place) none absent = absurd (true≢false none)

-- the keys of two parts
keys_of-append : {K V : Type 0} (x y : List (K × V)) → keys_of (x ++ y) ≡ keys_of x ++ keys_of y
keys_of-append [] y = refl
keys_of-append (row ∷ x) y = ap (λ ks. row.0 ∷ ks) (keys_of-append x y)

-- a key that stands before itself makes the list one with a key twice
twice : {K : Type 0} (front back : List K) (key : K) → AllPairs (λ one other. one ≢ other) (front ++ (key ∷ back))
    → ¬ Contains front key
twice front back key apart there =
    let size : length (front ++ (key ∷ back)) ≡ length front + suc (length back) = length-append front (key ∷ back) in
    let one : get_or (front ++ (key ∷ back)) there.0 key ≡ get_or front there.0 key =
    get_or_append_left front (key ∷ back) key there.0 there.1 in
    let other : get_or (front ++ (key ∷ back)) (length front + 0) key ≡ key =
    get_or-append-add front (key ∷ back) 0 key in
    apart there.0 (length front + 0) key (omega (arith, there.1)) (omega (arith, size)) (one ∙ there.2 ∙ sym other)

-- one more key, which is new, keeps keys apart
apart_push : {K : Type 0} (ks : List K) (key : K) → AllPairs (λ one other. one ≢ other) ks → ¬ Contains ks key
    → AllPairs (λ one other. one ≢ other) (ks ++ key ∷ [])
apart_push ks key apart absent =
    all_pairs_push (λ one other. one ≢ other) ks key apart
    (λ k d less same. absent (subst (Contains ks) same (Contains-get_or ks k d less)))

-- no keys are apart
apart_nil : {K : Type 0} (ks : List K) → ks ≡ [] → AllPairs (λ one other. one ≢ other) ks
apart_nil ks none i j d before within = absurd (let size : length ks ≡ 0 = ap length none in
    omega (arith, size, within))

module _ {K V : Type 0} (key_valid : K → Type 0) (value_valid : V → Type 0) (key_flat : K → List Item)
    (value_flat : V → List Item) where
  abbrev row_valid : K × V → Type 0
  row_valid = IsValidPair key_valid value_valid

  -- the items of one row
  abbrev row_items : K × V → List Item
  row_items = pair_items key_flat value_flat

  module _ (empty : Table K V) (items : List Item) (place : ℕ) where
    -- no row is built yet
    pub rows_none : empty.rows ≡ [] → AreRows key_valid value_valid key_flat value_flat empty items place 0 empty place
    rows_none none = record {
      like = refl;
      distinct = apart_nil (keys empty) (ap keys_of none);
      built = subst (λ rows. AreBuilt row_valid row_items items place 0 rows place) (sym none)
          (laws.are_none row_valid row_items items place);
    }

    module _ (n : ℕ) (table : Table K V) (next : ℕ)
        (are : AreRows key_valid value_valid key_flat value_flat empty items place n table next) where
      -- the next row has a fault
      pub row_fails : (count : ℕ) → n < count → (e : FlatError) → Builds row_valid row_items items next (Err e)
          → BuildsRows key_valid value_valid key_flat value_flat empty items place count (Err e)
      row_fails count less Bad never = λ other distinct all counted there.
          laws.next_fails row_valid row_items items place n count table.rows next are.built less Bad never other.rows
          all counted there
      row_fails count less Memory none = tt

      module _ (key : K) (value : V) (after : ℕ) (one : IsBuilt row_valid row_items items next (key, value) after) where
        -- the next row has a key that is there
        pub key_twice : (count : ℕ) → n < count → Contains (keys table) key
            → BuildsRows key_valid value_valid key_flat value_flat empty items place count (Err Bad)
        key_twice count less again = λ other distinct all counted there.
            let at = laws.split other.rows n (omega (arith, less, counted)) in
            let is = laws.next_is row_valid row_items items place n table.rows next
            (key, value) after are.built one other.rows all at there in
            let those : keys other ≡ keys table ++ (key ∷ keys_of at.back) = ap keys_of is
            ∙ keys_of-append table.rows ((key, value) ∷ at.back) in
            twice (keys table) (keys_of at.back) key (subst (AllPairs (λ one other. one ≢ other)) those distinct) again

        -- the next row is new
        pub row_more : (count : ℕ) → n < count → count ≤ empty.bound → ¬ Contains (keys table) key
            → (new : Table K V) (answer : Admit)
            → Admits table new key value answer
            → AreRows key_valid value_valid key_flat value_flat empty items place (n + 1) new after
        row_more count less fits absent new (At at) admits = ⊎_elim
            (λ (there : IsThere table new key at). absurd (absent (Contains-from_place (keys table) at key there.at)))
            (λ (added : IsNew table new key value at).
            let rows : new.rows ≡ table.rows ++ (key, value) ∷ [] = ap (λ (t : Table K V). t.rows) added.added in
            record {
              like = added.added ∙ ap (λ (t : Table K V). record t { rows = table.rows ++ (key, value) ∷ [] }) are.like
                  ∙ ap (λ l. record empty { rows = l }) (sym rows);
              distinct =
                  subst (AllPairs (λ one other. one ≢ other))
                  (sym (ap keys_of rows ∙ keys_of-push table.rows key value))
                  (apart_push (keys table) key are.distinct absent);
              built =
                  subst (λ l. AreBuilt row_valid row_items items place (n + 1) l after) (sym rows)
                  (laws.are_more row_valid row_items items place n table.rows next
                  (key, value) after are.built one);
            })
            admits
        row_more count less fits absent new Full admits =
            let size = are.built.counted in
            let full = admits.full in
            let bound : table.bound ≡ empty.bound = ap (λ (t : Table K V). t.bound) are.like in
            absurd (omega (arith, size, full, bound, less, fits))

  -- the bound, the count of drops and the number of rows, as two pairs
  abbrev Head : Type 0
  Head = (ℕ × ℕ) × ℕ

  -- their items
  abbrev head_items : Head → List Item
  head_items = pair_items (pair_items number_items number_items) number_items

  -- any three numbers may stand there
  abbrev IsHead : Head → Type 0
  IsHead = IsValidPair (IsValidPair Anything Anything) Anything

  -- the head of a table
  abbrev head_of : Table K V → Head
  head_of table = ((table.bound, table.dropped), length table.rows)

  -- a table by its head and its rows
  abbrev table_of : Head → List (K × V) → Table K V
  table_of head rows = record { rows = rows; bound = head.0.0; dropped = head.0.1 }

  module _ (items : List Item) (place : ℕ) where
    -- no head stands there
    pub head_fails : (e : FlatError) → Builds IsHead head_items items place (Err e)
        → Builds (IsTable key_valid value_valid) (table_items key_flat value_flat) items place (Err e)
    head_fails Bad never = λ table valid there.
        never (head_of table) ((tt, tt), tt) (laws.StandsAt-front items place (head_items (head_of table))
        (flat_map row_items table.rows) there)
    head_fails Memory none = tt

    module _ (head : Head) (middle : ℕ) (one : IsBuilt IsHead head_items items place head middle) where
      -- a table that stands where a head was built has this head
      same_head : (table : Table K V) → StandsAt items place (table_items key_flat value_flat table)
          → head_of table ≡ head
      same_head table there =
          one.only (head_of table) ((tt, tt), tt) (laws.StandsAt-front items place (head_items (head_of table))
          (flat_map row_items table.rows) there)

      -- the rows of a table that stands there stand after its head
      rows_stand : (table : Table K V) → StandsAt items place (table_items key_flat value_flat table)
          → StandsAt items middle (flat_map row_items table.rows)
      rows_stand table there =
          let start : place + length (head_items (head_of table)) ≡ middle =
          ap (λ (h : Head). place + length (head_items h)) (same_head table there) ∙ sym one.ends in
          subst (λ (p : ℕ). StandsAt items p (flat_map row_items table.rows)) start
          (laws.StandsAt-back items place (head_items (head_of table)) (flat_map row_items table.rows) there)

      -- a table, built from its head and its rows
      pub table_built : IsBounded head.1 head.0.0 → (empty : Table K V) → empty ≡ table_of head []
          → (built : Result (Table K V × ℕ) FlatError)
          → BuildsRows key_valid value_valid key_flat value_flat empty items middle head.1 built
          → Builds (IsTable key_valid value_valid) (table_items key_flat value_flat) items place built
      table_built fits empty is (Ok built) are =
          let like : built.0 ≡ table_of head built.0.rows = are.like
          ∙ ap (λ (t : Table K V). record t { rows = built.0.rows }) is in
          let bound : built.0.bound ≡ head.0.0 = ap (λ (t : Table K V). t.bound) like in
          let same : head_of built.0 ≡ head =
          ap (λ (t : Table K V). ((t.bound, t.dropped), length built.0.rows)) like
          ∙ ap (λ n. (head.0, n)) are.built.counted in
          let begins : middle ≡ place + length (head_items (head_of built.0)) = one.ends in
          record {
            is_valid = record {
              bounded = subst (λ (h : Head). IsBounded h.1 h.0.0) (sym same) fits;
              distinct = are.distinct;
              rows_valid = are.built.are_valid;
            };
            stands = laws.StandsAt-join items place (head_items (head_of built.0)) (flat_map row_items built.0.rows)
                (subst (λ (h : Head). StandsAt items place (head_items h)) (sym same) one.stands)
                (subst (λ (p : ℕ). StandsAt items p (flat_map row_items built.0.rows)) begins are.built.stand);
            ends = let end = are.built.ends in omega (arith, end, begins);
            only = λ other valid there.
                let heads = same_head other there in
                let counted : length other.rows ≡ head.1 = ap (λ (h : Head). h.1) heads in
                let rows = are.built.only other.rows valid.rows_valid counted (rows_stand other there) in
                ap (λ (h : Head). table_of h other.rows) heads ∙ ap (table_of head) rows ∙ sym like;
          }
      table_built fits empty is (Err Bad) never = λ other valid there.
          never other valid.distinct valid.rows_valid (ap (λ (h : Head). h.1) (same_head other there))
          (rows_stand other there)
      table_built fits empty is (Err Memory) none = tt
