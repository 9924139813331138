-- On specs/NoEmpty.antt: a list that a slot is put on has a slot, and one that gets empty goes.
use Rattle.std.proofs.Common.{◌≡◌, ℕ, zero, suc, ◌<◌, Bool, true, false, cond, ◌==◌, List, [], ◌∷◌, ◌++◌, length, Option, Some, None, Result, Ok, Err, sym, subst, ◌∙◌, true≢false, arith}
use mathlib.Core.Logic.{∥∥₁_elim}
use Rattle.std.proofs.Props.{props}
use Rattle.std.specs.Prelude.{IfSome, OnOk, OnErr}
use Rattle.std.specs.Global.{Vec}
use Rattle.std.proofs.lemmas.Bool.{cond_both}
use Rattle.std.proofs.lemmas.List.{length_push}
use Rattle.matcher_table.specs.NoEmpty.{KeepsNoEmptyList}

-- what is merely so of a map is so
pub had_none_empty : (lists : List (ℕ × Vec ℕ)) → ∥ KeepsNoEmptyList lists ∥₁ → KeepsNoEmptyList lists
had_none_empty lists none = ∥∥₁_elim none (hlevel props) (λ h. h)

-- a list that isn't empty by its own test
pub not_empty : (empty : Bool) (count : ℕ) → empty ≡ (count == 0) → empty ≡ false → 0 < count
not_empty empty zero tells is = absurd (true≢false (sym tells ∙ is))
not_empty empty (suc count) tells is = omega arith

-- a list that a slot joins, or doesn't for want of memory, isn't empty where it wasn't
pub joined_full : {E : Type 0} (result : Result Unit E) (old new : List ℕ) (slot : ℕ)
    → OnOk result (new ≡ old ++ slot ∷ []) → OnErr result (new ≡ old) → 0 < length old → 0 < length new
joined_full (Ok done) old new slot joined kept full =
    subst (λ (l : List ℕ). 0 < length l) (sym joined) (omega (arith, length_push old slot))
joined_full (Err e) old new slot joined kept full = subst (λ (l : List ℕ). 0 < length l) (sym kept) full

-- a list that is there has a slot
abbrev pub IsFull : Option (Vec ℕ) → Type 0
IsFull found = IfSome found (λ slots. 0 < length slots.items)

-- a list with a slot was put at an id
pub full_put : (is : Bool) (fresh : Vec ℕ) (old new : Option (Vec ℕ)) → new ≡ cond is (Some fresh) old
    → 0 < length fresh.items → IsFull old → IsFull new
full_put is fresh old new put full kept =
    subst IsFull (sym put) (cond_both is (Some fresh) old IsFull (λ _. full) (λ _. kept))

-- a list was written, and then taken out
pub full_taken : (is : Bool) (left : Vec ℕ) (old written new : Option (Vec ℕ)) → new ≡ cond is None written
    → written ≡ cond is (Some left) old → IsFull old → IsFull new
full_taken true left old written new taken put kept = subst IsFull (sym taken) tt
full_taken false left old written new taken put kept = subst IsFull (sym taken) (subst IsFull (sym put) kept)
