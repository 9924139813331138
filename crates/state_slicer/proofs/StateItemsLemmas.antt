-- For the builds of the states of an id and of a book: a state is saved as a number, and both tables as tables.
use Rattle.std.proofs.Common.{◌≡◌, ℕ, ℤ, zero, suc, ◌+◌, ◌<◌, ◌≤◌, ◌^◌, List, [], ◌∷◌, length, All, Option, Some, None, Result, Ok, Err, slice_get, Bool, IsTrue, IfSome, IfNone, is_some, ◌↔◌, Contains, inr, ⊎_elim, refl, sym, ap, subst, ◌∙◌, arith}
use Rattle.std.specs.Int.{w32, cast_unsigned, cast_signed}
use Rattle.std.specs.List.{flat_map}
use Rattle.std.proofs.lemmas.Bool.{false≢true}
use Rattle.std.proofs.lemmas.Int.{to_z-of_z, of_z-to_z}
use Rattle.std.proofs.lemmas.List.Elements.{All-cons, All-head, All-tail, All-push}
use Rattle.indexmap.specs.Layout.{set_value_at}
use Rattle.atom_record.specs.declared.value.Leaf.{Leaf}
use Rattle.atom_record.proofs.AtomReadingValues.{unsigned32, signed32}
use Rattle.flat_form.specs.declared.item.Item.{Item}
use Rattle.flat_form.specs.declared.flat_error.FlatError.{FlatError}
use Rattle.flat_form.specs.declared.flat_error.FlatError.TheVariants.{Bad, Memory}
use Rattle.flat_form.specs.Flat.{Anything, IsValidPair, StandsAt, IsBuilt, Builds, number_items, dims_items, pair_items}
use Rattle.flat_form.proofs.FlatLaws as laws
use Rattle.dim_table.specs.declared.answer.Admit.{Admit}
use Rattle.dim_table.specs.declared.answer.Admit.TheVariants.{At, Full}
use Rattle.dim_table.specs.Table.{Table, keys, with_value_at, IsThere, IsNew, IsTurnedAway, Admits}
use Rattle.dim_table.specs.TableItems.{IsTable, AreRows, BuildsRows}
use Rattle.dim_table.proofs.KeyLemmas.{Contains-from_place}
use Rattle.dim_table.proofs.TableItemsLemmas.{head_fails, table_built, row_more}
use Rattle.book_meaning.specs.BookLimits.{most_state_keys}
use Rattle.state_slicer.specs.StateTables.{IsTold}
use Rattle.state_slicer.specs.StateItems.{state_items, FitsState, state_row_items, IsStateRow, states_items, AreStates, state_book_items, HasNarrowId, IsStateTable, IsStateBook}

module _ (items : List Item) (place : ℕ) where
  -- where no number stands, no state does
  pub state_fails : (e : FlatError) → Builds Anything number_items items place (Err e)
      → Builds FitsState state_items items place (Err e)
  state_fails Bad never = λ state fits there. never (cast_unsigned w32 state) tt there
  state_fails Memory none = tt

  module _ (number next : ℕ) (one : IsBuilt Anything number_items items place number next) where
    -- a state is built from the number of its bits
    pub state_built : number < 2 ^ 32 → IsBuilt FitsState state_items items place (cast_signed w32 number) next
    state_built narrow =
        let bits : cast_unsigned w32 (cast_signed w32 number) ≡ number = of_z-to_z w32 number narrow in
        record {
          is_valid = signed32 number narrow;
          stands = subst (λ (n : ℕ). StandsAt items place (number_items n)) (sym bits) one.stands;
          ends = one.ends;
          only = λ other fits there.
              sym (to_z-of_z w32 other fits)
              ∙ ap (cast_signed w32) (one.only (cast_unsigned w32 other) tt there);
        }

    -- a larger number is that of no state
    pub no_state : 2 ^ 32 ≤ number → Builds FitsState state_items items place (Err Bad)
    no_state wide = λ other fits there.
        let same : cast_unsigned w32 other ≡ number = one.only (cast_unsigned w32 other) tt there in
        let narrow = unsigned32 other fits in
        omega (arith, wide, same, narrow)

-- a key is found exactly where it has a place
pub has_place : {K : Type 0} (ks : List K) (key : K) (place : Option ℕ) (found : Bool) → found ≡ is_some place
    → IfSome place (λ at. slice_get ks at ≡ Some key) → IfNone place (¬ Contains ks key)
    → IsTrue found ↔ Contains ks key
has_place ks key None found is there absent =
    (λ yes. absurd (false≢true (sym is ∙ yes)), λ has. absurd (absent has))
has_place ks key (Some at) found is there absent = (λ yes. Contains-from_place ks at key there, λ has. is)

-- what telling a new key answers, as a table does
pub told_admits : (old new : Table (List Leaf) ℤ) (key : List Leaf) (state : ℤ) → ¬ Contains (keys old) key
    → IsTold old new key state → (answer : Admit) × Admits old new key state answer
told_admits old new key state absent told = ⊎_elim
    (λ (there : (place : ℕ) × (slice_get (keys old) place ≡ Some key) × (new ≡ with_value_at old place state)).
    absurd (absent (Contains-from_place (keys old) there.0 key there.1)))
    (λ rest. ⊎_elim
    (λ (added : IsNew old new key state (length old.rows)). (At (length old.rows), inr added))
    (λ (away : IsTurnedAway old new key). (Full, away))
    rest)
    told

module _ (empty : Table (List Leaf) ℤ) (items : List Item) (place n : ℕ) (old : Table (List Leaf) ℤ) (next : ℕ)
    (are : AreRows Anything FitsState dims_items state_items empty items place n old next)
    (key : List Leaf) (state : ℤ) (after : ℕ)
    (one : IsBuilt IsStateRow state_row_items items next (key, state) after) where
  -- the next row has a new key, which is told its state
  pub row_told : (count : ℕ) → n < count → count ≤ empty.bound → ¬ Contains (keys old) key
      → (new : Table (List Leaf) ℤ) (told : ℤ) → told ≡ state → IsTold old new key told
      → AreRows Anything FitsState dims_items state_items empty items place (n + 1) new after
  row_told count less fits absent new told same tells =
      let admits = told_admits old new key state absent (subst (IsTold old new key) same tells) in
      row_more Anything FitsState dims_items state_items empty items place n old next are key state after one count less
      fits absent new admits.0 admits.1

-- the items of the head of a table: its bound, its drops and the number of its rows
abbrev head_items : (ℕ × ℕ) × ℕ → List Item
head_items = pair_items (pair_items number_items number_items) number_items

-- any three numbers may stand there
abbrev IsHead : (ℕ × ℕ) × ℕ → Type 0
IsHead = IsValidPair (IsValidPair Anything Anything) Anything

module _ (items : List Item) (place : ℕ) where
  -- where no head stands, no states of an id do
  pub states_fail : (e : FlatError) → Builds IsHead head_items items place (Err e)
      → Builds AreStates states_items items place (Err e)
  states_fail e fails =
      laws.form_fails (IsTable Anything FitsState) states_items AreStates states_items (λ states. states)
      (λ states. refl) (λ states valid. valid.is_table) items place e
      (head_fails Anything FitsState dims_items state_items items place e fails)

  module _ (head : (ℕ × ℕ) × ℕ) (middle : ℕ) (one : IsBuilt IsHead head_items items place head middle) where
    -- the head of states that stand there is this
    head_is : (states : Table (List Leaf) ℤ) → StandsAt items place (states_items states)
        → ((states.bound, states.dropped), length states.rows) ≡ head
    head_is states there = one.only ((states.bound, states.dropped), length states.rows) ((tt, tt), tt)
        (laws.StandsAt-front items place (head_items ((states.bound, states.dropped), length states.rows))
        (flat_map state_row_items states.rows) there)

    -- no states of an id have another bound, or more keys
    pub no_states_of : ¬ ((head.0.0 ≡ most_state_keys) × (head.1 ≤ head.0.0))
        → Builds AreStates states_items items place (Err Bad)
    no_states_of never = λ states valid there.
        let same = head_is states there in
        never
        (subst (λ (h : (ℕ × ℕ) × ℕ). (h.0.0 ≡ most_state_keys) × (h.1 ≤ h.0.0)) same
        (valid.bound, valid.is_table.bounded.within))

    module _ (empty : Table (List Leaf) ℤ) where
      -- a table like the empty one, with the bound of states
      states_from : empty.bound ≡ most_state_keys → (built : Result (Table (List Leaf) ℤ × ℕ) FlatError)
          → BuildsRows Anything FitsState dims_items state_items empty items middle head.1 built
          → Builds (IsTable Anything FitsState) states_items items place built
          → Builds AreStates states_items items place built
      states_from bound (Ok built) are table = record {
        is_valid = record {
          bound = ap (λ (t : Table (List Leaf) ℤ). t.bound) are.like ∙ bound;
          is_table = table.is_valid;
        };
        stands = table.stands;
        ends = table.ends;
        only = λ other valid there. table.only other valid.is_table there;
      }
      states_from bound (Err Bad) are never = λ other valid there. never other valid.is_table there
      states_from bound (Err Memory) are none = tt

      -- the states of an id, built from their head and their rows
      pub states_built : head.0.0 ≡ most_state_keys → head.1 ≤ head.0.0
          → empty ≡ record { rows = []; bound = most_state_keys; dropped = head.0.1 }
          → (built : Result (Table (List Leaf) ℤ × ℕ) FlatError)
          → BuildsRows Anything FitsState dims_items state_items empty items middle head.1 built
          → Builds AreStates states_items items place built
      states_built bound fits is built are =
          states_from (ap (λ (t : Table (List Leaf) ℤ). t.bound) is) built are
          (table_built Anything FitsState dims_items state_items items place head middle one
          (record { least = omega (arith, bound); most = omega (arith, bound); within = fits })
          empty (is ∙ ap (λ (n : ℕ). record { rows = []; bound = n; dropped = head.0.1 }) (sym bound)) built are)

-- a write to a row keeps its id
pub ids_fit-set : {V : Type 0} (rows : List (ℕ × V)) (place : ℕ) (value : V) → All (λ row. row.0 < 2 ^ 32) rows
    → All (λ row. row.0 < 2 ^ 32) (set_value_at rows place value)
ids_fit-set [] place value all = all
ids_fit-set {V = V} (row ∷ rows) zero value all =
    All-cons (λ (r : ℕ × V). r.0 < 2 ^ 32) (row.0, value) rows (All-head (λ (r : ℕ × V). r.0 < 2 ^ 32) row rows all)
    (All-tail (λ (r : ℕ × V). r.0 < 2 ^ 32) row rows all)
ids_fit-set {V = V} (row ∷ rows) (suc place) value all =
    All-cons (λ (r : ℕ × V). r.0 < 2 ^ 32) row (set_value_at rows place value)
    (All-head (λ (r : ℕ × V). r.0 < 2 ^ 32) row rows all)
    (ids_fit-set rows place value (All-tail (λ (r : ℕ × V). r.0 < 2 ^ 32) row rows all))

-- a book with other states at a place is one
pub fits-written : (table : Table ℕ (Table (List Leaf) ℤ)) (place : ℕ) (states : Table (List Leaf) ℤ)
    → IsStateTable table → IsStateTable (with_value_at table place states)
fits-written table place states is =
    record { bound = is.bound; ids_fit = ids_fit-set table.rows place states is.ids_fit }

-- a book that admits an id of 32 bits is one
pub admits_fits : (old new : Table ℕ (Table (List Leaf) ℤ)) (id : ℕ) (states : Table (List Leaf) ℤ) (answer : Admit)
    → Admits old new id states answer → id < 2 ^ 32 → IsStateTable old → IsStateTable new
admits_fits old new id states (At place) admits narrow is = ⊎_elim
    (λ (there : IsThere old new id place). subst IsStateTable (sym there.same) is)
    (λ (added : IsNew old new id states place).
    subst IsStateTable (sym added.added)
    (record { bound = is.bound; ids_fit = All-push HasNarrowId old.rows (id, states) is.ids_fit narrow }))
    admits
admits_fits old new id states Full admits narrow is =
    subst IsStateTable (sym admits.added) (record { bound = is.bound; ids_fit = is.ids_fit })

-- which tables of states by id there are
abbrev IsSoundTable : Table ℕ (Table (List Leaf) ℤ) → Type 0
IsSoundTable = IsTable Anything AreStates

module _ (items : List Item) (place : ℕ) where
  -- where no table stands, no book does
  pub book_fails : (e : FlatError) → Builds IsSoundTable state_book_items items place (Err e)
      → Builds IsStateBook state_book_items items place (Err e)
  book_fails e fails = laws.form_fails IsSoundTable state_book_items IsStateBook state_book_items (λ book. book)
      (λ book. refl) (λ book valid. valid.is_table) items place e fails

  module _ (table : Table ℕ (Table (List Leaf) ℤ)) (next : ℕ)
      (one : IsBuilt IsSoundTable state_book_items items place table next) where
    -- a book is built from its table
    pub book_built : (book : Table ℕ (Table (List Leaf) ℤ)) → book ≡ table → IsStateTable table
        → IsBuilt IsStateBook state_book_items items place book next
    book_built book is fits =
        subst (λ b. IsBuilt IsStateBook state_book_items items place b next) (sym is) (record {
          is_valid = record { is_state_table = fits; is_table = one.is_valid };
          stands = one.stands;
          ends = one.ends;
          only = λ other valid there. one.only other valid.is_table there;
        })

    -- no book has the table that stands there
    pub no_book : ¬ IsStateTable table → Builds IsStateBook state_book_items items place (Err Bad)
    no_book never = λ other valid there.
        never (subst IsStateTable (one.only other valid.is_table there) valid.is_state_table)
