-- Lemmas for callers: where no item stood earlier, any two of the list differ.
use Rattle.std.proofs.Common.{◌≡◌, ◌≢◌, Bool, true, false, true≢false, List, [], ◌∷◌, ◌++◌, Option, Some, None, if◌then◌else◌, All, refl, sym, subst, ◌∙◌, arith}
use Rattle.std.specs.Bool.{Decides}
use Rattle.std.specs.List.{list_any}
use Rattle.std.proofs.lemmas.Bool.{or_left, or_right}
use Rattle.std.proofs.lemmas.List.Folds.{list_any-append}
use Rattle.std.proofs.lemmas.List.Elements.{All-cons}
use Rattle.std.proofs.lemmas.List.Kept.{AllPairs-cons}
use Rattle.distinct.specs.Repeats.{repeat_after, repeat_in, AreApart}

-- each of no items
All-none : {X : Type 0} (P : X → Type 0) → All P []
All-none P k d within = absurd (omega arith)

module _ {A : Type 0} (same : A → A → Bool) (exact : (x y : A) → Decides (same x y) (x ≡ y)) where
  -- the first of these isn't among those before it, and the others are without repeat after it too
  is_fresh : (found : Bool) (x : A) (more : Option A) → (if found then Some x else more) ≡ None
      → (found ≡ false) × (more ≡ None)
  is_fresh true x more none = cc
  is_fresh false x more none = (refl, none)

  -- an item is among these once it is added
  among_added : (before : List A) (x : A) → list_any (same x) (before ++ x ∷ []) ≡ true
  among_added before x =
      list_any-append (same x) before (x ∷ []) ∙ or_right _ _ (or_left _ false ((exact x x).1 refl))

  -- one that was among these still is when another is added
  still_among : (before : List A) (y x : A) → list_any (same y) before ≡ true
      → list_any (same y) (before ++ x ∷ []) ≡ true
  still_among before y x there = list_any-append (same y) before (x ∷ []) ∙ or_left _ _ there

  -- what stood before all of these is none of them
  no_old : (before : List A) (y : A) (xs : List A) → list_any (same y) before ≡ true
      → repeat_after same before xs ≡ None → All (λ x. y ≢ x) xs
  no_old before y [] there none = All-none _
  no_old before y (x ∷ xs) there none =
      let parts = is_fresh (list_any (same x) before) x (repeat_after same (before ++ x ∷ []) xs) none in
      All-cons (λ x. y ≢ x) x xs
      (λ e. true≢false (sym there ∙ subst (λ (z : A). list_any (same z) before ≡ false) (sym e) parts.0))
      (no_old (before ++ x ∷ []) y xs (still_among before y x there) parts.1)

  all_apart : (before xs : List A) → repeat_after same before xs ≡ None → AreApart xs
  all_apart before [] none = λ i j d earlier within. absurd (omega arith)
  all_apart before (x ∷ xs) none =
      let parts = is_fresh (list_any (same x) before) x (repeat_after same (before ++ x ∷ []) xs) none in
      AllPairs-cons (λ x later. x ≢ later) x xs
      (no_old (before ++ x ∷ []) x xs (among_added before x) parts.1)
      (all_apart (before ++ x ∷ []) xs parts.1)

  -- where no item stood earlier, any two differ
  pub apart_without_repeat : (xs : List A) → repeat_in same xs ≡ None → AreApart xs
  apart_without_repeat xs none = all_apart [] xs none
