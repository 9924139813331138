-- A list that a name is put on has a name, and one that gets empty goes.
use Rattle.std.proofs.Common.{◌≡◌, ℕ, zero, suc, ◌<◌, Bool, true, false, cond, ◌↔◌, List, [], ◌∷◌, length, Option, Some, None, refl, sym, subst, true≢false, arith}
use Rattle.std.specs.Prelude.{IfSome, IsTrue}
use Rattle.std.specs.List.{list_any}
use Rattle.std.proofs.lemmas.Bool.{iff_false, cond_both}

-- where one of a list passes a test, it isn't empty
pub some_from_any : {N : Type 0} (test : N → Bool) (names : List N) → list_any test names ≡ true → 0 < length names
some_from_any test [] is = absurd (true≢false (sym is))
some_from_any test (name ∷ names) is = omega arith

-- a list that isn't empty by its own test
pub some_left : (empty : Bool) (count : ℕ) → (IsTrue empty ↔ (count ≡ 0)) → empty ≡ false → 0 < count
some_left empty zero tells is = absurd (iff_false tells is refl)
some_left empty (suc count) tells is = omega arith

module _ {N X : Type 0} (keys : X → List N) where
  -- a list that is there has a name
  abbrev pub IsHeard : Option X → Type 0
  IsHeard found = IfSome found (λ names. 0 < length (keys names))

  -- a list with a name was put at an id
  pub heard-put : (is : Bool) (fresh : X) (old new : Option X) → new ≡ cond is (Some fresh) old
      → 0 < length (keys fresh) → IsHeard old → IsHeard new
  heard-put is fresh old new put full kept =
      subst IsHeard (sym put) (cond_both is (Some fresh) old IsHeard (λ _. full) (λ _. kept))

  -- a list was written, and then taken out
  pub heard-taken : (is : Bool) (left : X) (old written new : Option X) → new ≡ cond is None written
      → written ≡ cond is (Some left) old → IsHeard old → IsHeard new
  heard-taken true left old written new taken put kept = subst IsHeard (sym taken) tt
  heard-taken false left old written new taken put kept = subst IsHeard (sym taken) (subst IsHeard (sym put) kept)
