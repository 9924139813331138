-- Lemmas on what holds at the indexes of a field, for the functions of `src/fields.rt`.
use Rattle.std.proofs.Common.{◌≡◌, ℕ, suc, ◌≤◌, ◌<◌, ◌+◌, Bool, true, false, not, ◌&&◌, ◌||◌, List, [], ◌∷◌, ◌++◌, length, get_or, Some, None, refl, ap, sym, ◌∙◌, subst, arith}
use Rattle.std.specs.Prelude.{filter, nat_lt, ◌==◌, nat_le}
use Rattle.std.specs.Bool.{beq}
use Rattle.std.specs.List.{All, list_all, list_any, slice_get}
use Rattle.std.specs.List.Sorted.{IsNonDecreasingBy}
use Rattle.std.proofs.lemmas.List.{take_all, append-nil}
use Rattle.std.proofs.lemmas.Option.{slice_get_within, get_or_from_slice_get}
use Rattle.std.proofs.lemmas.List.Elements.{filter-append, filter_passes, All-filter}
use Rattle.std.proofs.lemmas.List.Kept.{IsNonDecreasingBy-filter}
use Rattle.std.proofs.lemmas.List.Folds.{list_all-append, list_all-map}
use Rattle.atom_record.specs.declared.atom.AtomField.{AtomField}
use Rattle.config_types.specs.declared.matcher.FieldTest.{FieldTest}
use Rattle.config_types.specs.declared.matcher.Test.{Test}
use Rattle.config_types.specs.declared.matcher.Test.TheOpen.{Test-F}
use Rattle.matcher_eval.specs.ValueTests.{is_same_truth}
use Rattle.matcher_eval.specs.AtomTests.{is_at_index, is_repeated, condition_holds, holds_at_index, tested_indexes}
use Rattle.matcher_eval.specs.Parts.{is_below_index, AreParts}
use Rattle.matcher_eval.proofs.EntriesLemmas.{filter_front, filter_twice}

-- a truth and itself are that truth
both_are : (b : Bool) → (b && b) ≡ b
both_are true = refl
both_are false = refl

-- a truth and true are that truth
with_true : (b : Bool) → (b && true) ≡ b
with_true true = refl
with_true false = refl

module _ {X : Type 0} where
  -- two tests that agree on each element
  pub list_all_same : (f g : X → Bool) (xs : List X) → All (λ x. f x ≡ g x) xs → list_all f xs ≡ list_all g xs
  list_all_same f g [] same = refl
  list_all_same f g (x ∷ xs) same =
      rw (same 0 x (omega arith))
      (ap (λ (b : Bool). g x && b) (list_all_same f g xs (λ k d inside. same (suc k) d (omega arith))))

  -- a test that has one answer for each element
  pub list_all_one : (f : X → Bool) (b : Bool) (xs : List X) → 0 < length xs → All (λ x. f x ≡ b) xs → list_all f xs ≡ b
  list_all_one f b [] some one = absurd (omega (arith, some))
  list_all_one f b (x ∷ []) some one = rw (one 0 x (omega arith)) (with_true b)
  list_all_one f b (x ∷ y ∷ xs) some one =
      rw (one 0 x (omega arith))
      (ap (λ (c : Bool). b && c) (list_all_one f b (y ∷ xs) (omega arith) (λ k d inside. one (suc k) d (omega arith)))
      ∙ both_are b)

  -- a test that each element passes keeps all
  pub filter_every : (p : X → Bool) (xs : List X) → All (λ x. p x ≡ true) xs → filter p xs ≡ xs
  filter_every p xs each =
      sym (filter_front p xs (length xs) (λ k d low high. each k d high) (λ k d low high. absurd (omega arith)))
      ∙ take_all (length xs) xs (omega arith)

  -- a test that no element passes keeps none
  pub filter_none : (p : X → Bool) (xs : List X) → All (λ x. p x ≡ false) xs → filter p xs ≡ []
  filter_none p xs each =
      sym (filter_front p xs 0 (λ k d low high. absurd (omega arith)) (λ k d low high. each k d high))

-- numbers that differ aren't the same
differs : (n m : ℕ) → n < m → (n == m) ≡ false
differs n m lower = grind arith

differs_back : (n m : ℕ) → m < n → (n == m) ≡ false
differs_back n m lower = grind arith

-- a number is the same as itself
is_it : (n m : ℕ) → n ≡ m → (n == m) ≡ true
is_it n m same = grind arith

-- an entry of an index of at least 1 is one of a repeated field
is_one_of_many : (n m : ℕ) → nat_le 1 m ≡ true → (n == m) ≡ (nat_le 1 n && (n == m))
is_one_of_many n m many = grind arith

-- a number below the next of another, and no less than that one, is that one
is_below_next : (n m : ℕ) → nat_lt n (m + 1) ≡ true → m ≤ n → n ≡ m
is_below_next n m below least = grind arith

-- a number not below the next of another is greater
is_not_below_next : (n m : ℕ) → not (nat_lt n (m + 1)) ≡ true → m < n
is_not_below_next n m not_below = grind arith

-- a number is below its next
is_below_its_next : (n m : ℕ) → n ≡ m → nat_lt n (m + 1) ≡ true
is_below_its_next n m same = grind arith

-- a first element that passes is kept
starts : {X : Type 0} (p : X → Bool) (x : X) (xs : List X) → p x ≡ true → 0 < length (filter p (x ∷ xs))
starts p x xs passes = rw passes (omega arith)

-- some entry has the first one's index
pub some_here : (rest here next : List AtomField) (first : AtomField) → slice_get rest 0 ≡ Some first
    → AreParts (is_below_index (first.index + 1)) rest here next → 0 < length here
some_here [] here next first found parts = absurd (omega (arith, slice_get_within [] 0 first found))
some_here (x ∷ xs) here next first found parts =
    let is_first : x ≡ first = get_or_from_slice_get (x ∷ xs) 0 first first found in
    let below : is_below_index (first.index + 1) x ≡ true =
    is_below_its_next _ _ (ap (λ (entry : AtomField). entry.index) is_first) in
    omega (arith, ap length parts.passing, starts (is_below_index (first.index + 1)) x xs below)

-- along these entries the index doesn't fall
abbrev pub IndexRises : List AtomField → Type 0
IndexRises entries = IsNonDecreasingBy (λ (entry : AtomField). entry.index) entries

-- along the entries after an index the index doesn't fall
pub others_rise : (test : AtomField → Bool) (entries front rest : List AtomField)
    → IndexRises entries → AreParts test entries front rest → IndexRises rest
others_rise test entries front rest rising parts =
    subst IndexRises (sym parts.others)
    (IsNonDecreasingBy-filter (λ entry. entry.index) (λ entry. not (test entry)) entries rising)

-- truths that differ
pub differing : (b c : Bool) → not (beq b c) ≡ true → is_same_truth b c ≡ false
differing true true unlike = cc
differing true false unlike = refl
differing false true unlike = refl
differing false false unlike = cc

-- truths that don't differ
pub agreeing : (b c : Bool) → not (beq b c) ≡ false → is_same_truth b c ≡ true
agreeing true true like = refl
agreeing true false like = cc
agreeing false true like = cc
agreeing false false like = refl

-- some element passes where not each one fails
pub some_passes : {X : Type 0} (f : X → Bool) (xs : List X)
    → not (list_all (λ x. is_same_truth (f x) false) xs) ≡ list_any f xs
some_passes f [] = refl
some_passes f (x ∷ xs) = head (f x) (some_passes f xs)
  where
    head : (b : Bool) → not (list_all (λ x. is_same_truth (f x) false) xs) ≡ list_any f xs
        → not (is_same_truth b false && list_all (λ x. is_same_truth (f x) false) xs) ≡ (b || list_any f xs)
    head true rest = refl
    head false rest = rest

module _ (condition : Test-F Test FieldTest) (truth : Bool) where
  -- the condition has this truth on the entries of one index
  abbrev pub is_so_of : List AtomField → Bool
  is_so_of entries = is_same_truth (condition_holds entries condition) truth

  -- among these entries the condition has this truth at the index of an entry
  abbrev pub is_so_at : List AtomField → AtomField → Bool
  is_so_at entries entry = is_same_truth (holds_at_index entries condition entry.index) truth

  -- it has this truth at the index of each of them
  abbrev pub is_so_on : List AtomField → Bool
  is_so_on entries = list_all (is_so_at entries) entries

  -- the entries of one index, and then those of greater ones
  module _ (here next : List AtomField) (index : ℕ)
      (at : All (λ (entry : AtomField). entry.index ≡ index) here)
      (above : All (λ (entry : AtomField). index < entry.index) next) where
    -- those of the index are the first ones
    those_here : filter (is_at_index index) (here ++ next) ≡ here
    those_here =
        let all = filter_every (is_at_index index) here (λ k d inside. is_it _ _ (at k d inside)) in
        let none = filter_none (is_at_index index) next (λ k d inside. differs_back _ _ (above k d inside)) in
        filter-append (is_at_index index) here next
        ∙ ap (λ (xs : List AtomField). xs ++ filter (is_at_index index) next) all
        ∙ ap (λ (xs : List AtomField). here ++ xs) none
        ∙ append-nil here

    -- those of a greater index stand after them
    those_next : (i : ℕ) → index < i → filter (is_at_index i) (here ++ next) ≡ filter (is_at_index i) next
    those_next i greater =
        let none = filter_none (is_at_index i) here (λ k d inside. rw (at k d inside) (differs _ _ greater)) in
        filter-append (is_at_index i) here next ∙ ap (λ (xs : List AtomField). xs ++ filter (is_at_index i) next) none

    group : 0 < length here → is_so_on (here ++ next) ≡ (is_so_of here && is_so_on next)
    group some =
        let first : list_all (is_so_at (here ++ next)) here ≡ is_so_of here =
        list_all_one (is_so_at (here ++ next)) (is_so_of here) here some
        (λ k d inside. rw (at k d inside) (ap is_so_of those_here)) in
        let second : list_all (is_so_at (here ++ next)) next ≡ is_so_on next =
        list_all_same (is_so_at (here ++ next)) (is_so_at next) next
        (λ k d inside. ap is_so_of (those_next (get_or next k d).index (above k d inside))) in
        list_all-append (is_so_at (here ++ next)) here next
        ∙ ap (λ (b : Bool). b && list_all (is_so_at (here ++ next)) next) first
        ∙ ap (λ (b : Bool). is_so_of here && b) second

  -- what holds at each index is what holds at the first one, and at those after it
  pub first_index : (rest here next : List AtomField) (first : AtomField)
      → slice_get rest 0 ≡ Some first → IndexRises rest
      → AreParts (is_below_index (first.index + 1)) rest here next
      → is_so_on rest ≡ (is_so_of here && is_so_on next)
  first_index rest here next first found rising parts =
      let below = is_below_index (first.index + 1) in
      let is_first : (d : AtomField) → get_or rest 0 d ≡ first = λ d. get_or_from_slice_get rest 0 first d found in
      let least : All (λ (entry : AtomField). first.index ≤ entry.index) rest =
      λ k d inside.
      omega (arith, rising 0 k d (omega arith) inside, ap (λ (entry : AtomField). entry.index) (is_first d)) in
      let kept_least = All-filter below (λ (entry : AtomField). first.index ≤ entry.index) rest least in
      let at : All (λ (entry : AtomField). entry.index ≡ first.index) (filter below rest) =
      λ k d inside. is_below_next _ _ (filter_passes below rest k d inside) (kept_least k d inside) in
      let above : All (λ (entry : AtomField). first.index < entry.index) (filter (λ entry. not (below entry)) rest) =
      λ k d inside. is_not_below_next _ _ (filter_passes (λ entry. not (below entry)) rest k d inside) in
      ap is_so_on parts.whole
      ∙ group here next first.index
      (subst (λ (xs : List AtomField). All (λ (entry : AtomField). entry.index ≡ first.index) xs) (sym parts.passing)
      at)
      (subst (λ (xs : List AtomField). All (λ (entry : AtomField). first.index < entry.index) xs) (sym parts.others)
      above)
      (some_here rest here next first found parts)

  -- what holds at each index of a field is what holds at those of its entries that have one
  pub each_index : (entries : List AtomField)
      → list_all (λ index. is_same_truth (holds_at_index entries condition index) truth) (tested_indexes entries)
      ≡ is_so_on (filter is_repeated entries)
  each_index entries =
      let repeats = filter is_repeated entries in
      let so = λ (index : ℕ). is_same_truth (holds_at_index entries condition index) truth in
      let kept : (k : ℕ) (d : AtomField) → k < length repeats
      → filter (is_at_index (get_or repeats k d).index) entries ≡ filter (is_at_index (get_or repeats k d).index)
      repeats =
      λ k d inside.
      let at = is_at_index (get_or repeats k d).index in
      let many = filter_passes is_repeated entries k d inside in
      sym (filter_twice at is_repeated at (λ (entry : AtomField).
      is_one_of_many entry.index (get_or repeats k d).index many) entries) in
      list_all-map so (λ (entry : AtomField). entry.index) repeats
      ∙ list_all_same (is_so_at entries) (is_so_at repeats) repeats (λ k d inside. ap is_so_of (kept k d inside))

  -- where no entry is left, nothing is left to be said
  pub none_left : (rest : List AtomField) → slice_get rest 0 ≡ None → is_so_on rest ≡ true
  none_left [] none = refl
  none_left (x ∷ xs) none = cc
