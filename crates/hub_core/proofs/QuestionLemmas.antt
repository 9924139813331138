-- A held table asks once about each different simple matcher of an atom's id that is live.
use Rattle.std.proofs.Common.{◌≡◌, ◌≢◌, ℕ, zero, suc, ◌+◌, ◌<◌, ◌≤◌, Bool, true, false, cond, List, [], ◌∷◌, length, get_or, Option, Some, None, refl, sym, ap, ◌∙◌, arith, true≢false}
use Rattle.std.specs.List.{All, slice_get, sum_by, flat_map}
use Rattle.std.proofs.lemmas.List.Elements.{All-nil, All-cons, All-head, All-tail, All-append}
use Rattle.std.proofs.lemmas.List.Sums.{sum_by-cons}
use Rattle.atom_record.specs.declared.atom.Atom.{Atom}
use Rattle.config_types.specs.declared.matcher.SimpleMatcher.{SimpleMatcher}
use Rattle.config_links.specs.declared.linked.LMatcher.{LMatcher}
use Rattle.config_links.specs.declared.linked.LMatcher.TheVariants as linked
use Rattle.matcher_table.specs.declared.shared.SharedMatcher.{SharedMatcher}
use Rattle.matcher_table.specs.declared.shared.SharedMatcher.TheVariants.{Simple, Combination}
use Rattle.matcher_table.specs.Slots.{matcher_at}
use Rattle.matcher_table.specs.Tables.{SlotTable}
use Rattle.matcher_table.specs.TableFacts.{IsSoundTable}
use Rattle.matcher_table.specs.Truths.{has_id_of, asks_about, questions}
use Rattle.matcher_table.proofs.HeldLaws.{some_live}
use Rattle.held_slots.specs.Holdings.{in_slots}
use Rattle.client_engine.specs.declared.live_id.LiveId.{LiveId}
use Rattle.hub_core.specs.declared.live_instance.LiveInstance.{LiveInstance}
use Rattle.hub_core.specs.SharedTable.{IsHeldIn, AllHeld, IsHeldTable}
use Rattle.hub_core.specs.DifferentMatchers.{is_same_matcher, asked_matcher, asked_matchers, different, count_different}
use Rattle.hub_core.proofs.CopyLemmas.{copies, one_same, copies-append, same_is, one_self, copies_self, one_where, different_once, different_all}
use Rattle.hub_core.proofs.ReachedLemmas.{own, own_at, stands, live_holder}

sum_none : {A : Type 0} (xs : List A) → sum_by (λ (x : A). 0) xs ≡ 0
sum_none [] = refl
sum_none {A} (x ∷ xs) = omega (arith, sum_by-cons (λ (x : A). 0) x xs, sum_none xs)

sum_both : {A : Type 0} (f g : A → ℕ) (xs : List A) → sum_by (λ x. f x + g x) xs ≡ sum_by f xs + sum_by g xs
sum_both f g [] = refl
sum_both f g (x ∷ xs) =
    omega (arith, sum_by-cons (λ x. f x + g x) x xs, sum_by-cons f x xs, sum_by-cons g x xs, sum_both f g xs)

sum_same : {A : Type 0} (f g : A → ℕ) (xs : List A) → ((x : A) → f x ≡ g x) → sum_by f xs ≡ sum_by g xs
sum_same f g [] same = refl
sum_same f g (x ∷ xs) same = omega (arith, sum_by-cons f x xs, sum_by-cons g x xs, same x, sum_same f g xs same)

-- a table of numbers has one sum, along its rows and along its columns
sum_turned : {A B : Type 0} (f : A → B → ℕ) (xs : List A) (ys : List B)
    → sum_by (λ x. sum_by (f x) ys) xs ≡ sum_by (λ y. sum_by (λ x. f x y) xs) ys
sum_turned {A} {B} f [] ys = sym (sum_none ys)
sum_turned {A} {B} f (x ∷ xs) ys =
    sum_by-cons (λ (x : A). sum_by (f x) ys) x xs
    ∙ ap (λ (n : ℕ). sum_by (f x) ys + n) (sum_turned f xs ys)
    ∙ sym (sum_both (f x) (λ (y : B). sum_by (λ (x : A). f x y) xs) ys)
    ∙ sym (sum_same (λ (y : B). sum_by (λ (x : A). f x y) (x ∷ xs))
    (λ (y : B). f x y + sum_by (λ (x : A). f x y) xs) ys (λ (y : B). sum_by-cons (λ (x : A). f x y) x xs))

-- one for what stands for a matcher
abbrev stands_for : Option SharedMatcher → SimpleMatcher → ℕ
stands_for None m = 0
stands_for (Some (Simple x)) m = one_same x m
stands_for (Some (Combination op children)) m = 0

-- a matcher of the atom's id that a slot stands for
abbrev HasASlot : Atom → List (Option SharedMatcher) → SimpleMatcher → Type 0
HasASlot atom slots m = (has_id_of atom m ≡ true) × ((s : ℕ) × (matcher_at slots s ≡ Some (Simple m)))

-- nothing that stands before a list stands for it again
none_stands : (m : SimpleMatcher) (slots : List (Option SharedMatcher))
    → ((s : ℕ) → matcher_at slots s ≢ Some (Simple m)) → sum_by (λ o. stands_for o m) slots ≡ 0
none_stands m [] none = refl
none_stands m (o ∷ slots) none =
    omega (
      arith,
      sum_by-cons (λ o. stands_for o m) o slots,
      here o (none 0),
      none_stands m slots (λ s. none (suc s)),
    ) where
      by_same : (x : SimpleMatcher) (b : Bool) → is_same_matcher x m ≡ b → Some (Simple x) ≢ Some (Simple m)
          → one_where b ≡ 0
      by_same x true is other = absurd (other (ap (λ (y : SimpleMatcher). Some (Simple y)) (same_is x m is)))
      by_same x false is other = refl

      here : (o : Option SharedMatcher) → o ≢ Some (Simple m) → stands_for o m ≡ 0
      here None other = refl
      here (Some (Simple x)) other = by_same x (is_same_matcher x m) refl other
      here (Some (Combination op children)) other = refl

-- slots that stand for the same are one
abbrev AreApart : List (Option SharedMatcher) → Type 0
AreApart slots = (s t : ℕ) → matcher_at slots s ≢ None → matcher_at slots s ≡ matcher_at slots t → s ≡ t

self_stands : (o : Option SharedMatcher) (m : SimpleMatcher) → o ≡ Some (Simple m) → stands_for o m ≡ 1
self_stands o m e = ap (λ (x : Option SharedMatcher). stands_for x m) e ∙ one_self m

-- a matcher that has a slot has one
one_stands : (m : SimpleMatcher) (slots : List (Option SharedMatcher)) → AreApart slots → (s : ℕ)
    → matcher_at slots s ≡ Some (Simple m) → sum_by (λ o. stands_for o m) slots ≡ 1
one_stands m [] apart s e = absurd (cc)
one_stands m (o ∷ slots) apart zero e =
    let none : sum_by (λ o. stands_for o m) slots ≡ 0 =
    none_stands m slots (λ t e'.
    let same : 0 ≡ suc t = apart 0 (suc t) (some_live o (Simple m) e) (e ∙ sym e') in
    absurd (omega (arith, same))) in
    omega (arith, sum_by-cons (λ o. stands_for o m) o slots, self_stands o m e)
one_stands m (o ∷ slots) apart (suc s) e =
    omega (
      arith,
      sum_by-cons (λ o. stands_for o m) o slots,
      one_stands m slots (λ t u live same. later t u (apart (suc t) (suc u) live same)) s e,
      here,
    ) where
      later : (t u : ℕ) → suc t ≡ suc u → t ≡ u
      later t u same = omega (arith, same)

      other : o ≢ Some (Simple m)
      other e' =
          let same : 0 ≡ suc s = apart 0 (suc s) (some_live o (Simple m) e') (e' ∙ sym e) in
          omega (arith, same)

      by_same : (x : SimpleMatcher) (b : Bool) → is_same_matcher x m ≡ b → Some (Simple x) ≢ Some (Simple m)
          → one_where b ≡ 0
      by_same x true is other' = absurd (other' (ap (λ (y : SimpleMatcher). Some (Simple y)) (same_is x m is)))
      by_same x false is other' = refl

      not_here : (o' : Option SharedMatcher) → o' ≢ Some (Simple m) → stands_for o' m ≡ 0
      not_here None other' = refl
      not_here (Some (Simple x)) other' = by_same x (is_same_matcher x m) refl other'
      not_here (Some (Combination op children)) other' = refl

      here : stands_for o m ≡ 0
      here = not_here o other

-- so many matchers that have each one slot
columns : (slots : List (Option SharedMatcher)) → AreApart slots → (atom : Atom) (ms : List SimpleMatcher)
    → All (HasASlot atom slots) ms → sum_by (λ m. sum_by (λ o. stands_for o m) slots) ms ≡ length ms
columns slots apart atom [] all = refl
columns slots apart atom (m ∷ ms) all =
    let slot = (All-head (HasASlot atom slots) m ms all).1 in
    omega (
      arith,
      sum_by-cons (λ m. sum_by (λ o. stands_for o m) slots) m ms,
      one_stands m slots apart slot.0 slot.1,
      columns slots apart atom ms (All-tail (HasASlot atom slots) m ms all),
    )

-- what a slot is asked about stands once among matchers, and what it isn't asked about nowhere
rows_are : (f : Option SharedMatcher → ℕ) (atom : Atom) (slots : List (Option SharedMatcher))
    → ((s : ℕ) → s < length slots → f (matcher_at slots s) ≡ cond (asks_about atom (matcher_at slots s)) 1 0)
    → sum_by f slots ≡ questions atom slots
rows_are f atom [] each = refl
rows_are f atom (o ∷ slots) each =
    omega (
      arith,
      sum_by-cons f o slots,
      sum_by-cons (λ o. cond (asks_about atom o) 1 0) o slots,
      each 0 (omega arith),
      rows_are f atom slots (λ s h. each (suc s) (omega arith)),
    )

-- no matcher of another id is among those of the id
other_id : (atom : Atom) (x : SimpleMatcher) → has_id_of atom x ≡ false → (slots : List (Option SharedMatcher))
    (ms : List SimpleMatcher) → All (HasASlot atom slots) ms → sum_by (one_same x) ms ≡ 0
other_id atom x is slots [] all = refl
other_id atom x is slots (m ∷ ms) all =
    omega (
      arith,
      sum_by-cons (one_same x) m ms,
      by_case (is_same_matcher x m) refl,
      other_id atom x is slots ms (All-tail (HasASlot atom slots) m ms all),
    ) where
      by_case : (b : Bool) → is_same_matcher x m ≡ b → one_where b ≡ 0
      by_case true same =
          absurd (true≢false (sym (All-head (HasASlot atom slots) m ms all).0
          ∙ ap (has_id_of atom) (sym (same_is x m same)) ∙ is))
      by_case false same = refl

module _ (atom : Atom) (table : SlotTable) (rows : List (LiveId × LiveInstance)) (sound : IsSoundTable table)
    (held : IsHeldTable table rows) where
  -- each asked matcher of what is live has a slot
  of_matcher : (slots : List ℕ) (s : ℕ) (m : LMatcher) → matcher_at table.slots s ≡ Some (in_slots slots m)
      → All (HasASlot atom table.slots) (asked_matcher atom m)
  of_matcher slots s (linked.Simple x) is = by_case (has_id_of atom x) refl where
    by_case : (b : Bool) → has_id_of atom x ≡ b → All (HasASlot atom table.slots) (cond b (x ∷ []) [])
    by_case true of =
        All-cons (HasASlot atom table.slots) x [] (of, (s, is)) (All-nil (HasASlot atom table.slots))
    by_case false of = All-nil (HasASlot atom table.slots)
  of_matcher slots s (linked.Combo op children) is = All-nil (HasASlot atom table.slots)

  of_matchers : (slots : List ℕ) (ms : List LMatcher) → ((place : ℕ) (m : LMatcher) → slice_get ms place ≡ Some m
      → (s : ℕ) × (matcher_at table.slots s ≡ Some (in_slots slots m)))
      → All (HasASlot atom table.slots) (flat_map (asked_matcher atom) ms)
  of_matchers slots [] each = All-nil (HasASlot atom table.slots)
  of_matchers slots (m ∷ ms) each =
      let first = each 0 m refl in
      All-append (HasASlot atom table.slots) (asked_matcher atom m) (flat_map (asked_matcher atom) ms)
      (of_matcher slots first.0 m first.1) (of_matchers slots ms (λ place m' is. each (suc place) m' is))

  of_rows : (rows : List (LiveId × LiveInstance)) → AllHeld table rows
      → All (HasASlot atom table.slots) (asked_matchers atom rows)
  of_rows [] all = All-nil (HasASlot atom table.slots)
  of_rows (row ∷ rows) all =
      let P : LiveId × LiveInstance → Type 0 = λ row. IsHeldIn table row.1 in
      let here = All-head P row rows all in
      All-append (HasASlot atom table.slots) (flat_map (asked_matcher atom) row.1.carried.instance.matchers)
      (asked_matchers atom rows)
      (of_matchers row.1.slots row.1.carried.instance.matchers
      (λ place m is. (get_or row.1.slots place 0, here.slots.same place m is))) (of_rows rows (All-tail P row rows all))

  different_slots : All (HasASlot atom table.slots) (different (asked_matchers atom rows))
  different_slots =
      different_all (HasASlot atom table.slots) (asked_matchers atom rows) (of_rows rows held.all)

  -- the matcher of a slot that is asked about is among them
  asked_at : (x : SimpleMatcher) (ms : List LMatcher) (place : ℕ) (m : LMatcher) → slice_get ms place ≡ Some m
      → copies x (asked_matcher atom m) ≤ copies x (flat_map (asked_matcher atom) ms)
  asked_at x [] place m is = absurd (cc)
  asked_at x (first ∷ ms) zero m is =
      let same : first ≡ m = cc in
      omega (
        arith,
        copies-append x (asked_matcher atom first) (flat_map (asked_matcher atom) ms),
        ap (λ (y : LMatcher). copies x (asked_matcher atom y)) same,
      )
  asked_at x (first ∷ ms) (suc place) m is =
      omega (
        arith,
        copies-append x (asked_matcher atom first) (flat_map (asked_matcher atom) ms),
        asked_at x ms place m is,
      )

  own_asked : (x : SimpleMatcher) (slots : List ℕ) (m : LMatcher) → Some (in_slots slots m) ≡ Some (Simple x)
      → has_id_of atom x ≡ true → 0 < copies x (asked_matcher atom m)
  own_asked x slots (linked.Simple y) is of =
      let same : y ≡ x = cc in
      let asked : asked_matcher atom (linked.Simple y) ≡ y ∷ [] =
      ap (λ (b : Bool). cond b (y ∷ []) []) (ap (has_id_of atom) same ∙ of) in
      let one : copies x (y ∷ []) ≡ 1 = ap (λ (z : SimpleMatcher). copies x (z ∷ [])) same ∙ copies_self x in
      omega (arith, ap (copies x) asked, one)
  own_asked x slots (linked.Combo op children) is of = absurd (cc)

  among : (s : ℕ) (x : SimpleMatcher) → matcher_at table.slots s ≡ Some (Simple x) → has_id_of atom x ≡ true
      → 0 < copies x (asked_matchers atom rows)
  among s x is of =
      let h = live_holder table rows sound held s (some_live (matcher_at table.slots s) (Simple x) is) in
      let m = own table rows s h in
      omega (
        arith,
        own_asked x h.live.slots m (sym (stands table rows s h) ∙ is) of,
        asked_at x h.live.carried.instance.matchers h.place m (own_at table rows s h),
        h.asked atom x,
      )

  row_is : (s : ℕ) (o : Option SharedMatcher) → matcher_at table.slots s ≡ o
      → sum_by (stands_for o) (different (asked_matchers atom rows)) ≡ cond (asks_about atom o) 1 0
  row_is s None is = sum_none (different (asked_matchers atom rows))
  row_is s (Some (Combination op children)) is = sum_none (different (asked_matchers atom rows))
  row_is s (Some (Simple x)) is = by_case (has_id_of atom x) refl where
    by_case : (b : Bool) → has_id_of atom x ≡ b
        → sum_by (one_same x) (different (asked_matchers atom rows)) ≡ cond b 1 0
    by_case true of = different_once x (asked_matchers atom rows) (among s x is of)
    by_case false of = other_id atom x of table.slots (different (asked_matchers atom rows)) different_slots

  -- the questions are as many as there are different matchers
  pub questions_are : questions atom table.slots ≡ count_different atom rows
  questions_are =
      let ms = different (asked_matchers atom rows) in
      sym (rows_are (λ o. sum_by (stands_for o) ms) atom table.slots
      (λ s h. row_is s (matcher_at table.slots s) refl))
      ∙ sum_turned stands_for table.slots ms
      ∙ columns table.slots sound.apart atom ms different_slots
