-- For `can_be_spelled`: loops that go on while each one passes, and an atom that is read back from its payload.
use Rattle.std.proofs.Common.{◌≡◌, ℕ, ◌+◌, ◌<◌, ◌≤◌, ◌↔◌, Bool, true, IsTrue, Result, Ok, Err, IfOk, List, ◌++◌, length, take, get_or, All, refl, subst, arith}
use Rattle.std.specs.Bool.{Decides}
use Rattle.std.proofs.lemmas.List.{length-append, get_or_default, get_or-append-add}
use Rattle.std.proofs.lemmas.List.Elements.{All-append}
use Rattle.atom_record.specs.declared.atom.Atom.{Atom}
use Rattle.atom_record.specs.AtomSound.{HasNoFault}
use Rattle.atom_record.proofs.LoopLemmas.{holds_one, holds_all}

module _ {X : Type 0} (P : X → Type 0) where
  -- what holds of all holds of the later ones
  pub all_later : (earlier later : List X) → All P (earlier ++ later) → All P later
  all_later earlier later all = λ k d less.
      let sum = length-append earlier later in
      subst P (get_or-append-add earlier later k d) (all (length earlier + k) d (omega arith))

  -- it holds of all exactly where it does of the later ones, if it does of the earlier
  as_later : (same : Bool) (earlier later : List X)
      → All P earlier
      → IsTrue same ↔ All P later
      → IsTrue same ↔ All P (earlier ++ later)
  as_later same earlier later first rest = (
    λ is. All-append P earlier later first (rest.0 is),
    λ all. rest.1 (all_later earlier later all),
  )

  -- the same of an answer that may want memory
  pub if_later : {E : Type 0} (answer : Result Bool E) (earlier later : List X)
      → All P earlier
      → IfOk answer (λ same. IsTrue same ↔ All P later)
      → IfOk answer (λ same. IsTrue same ↔ All P (earlier ++ later))
  if_later (Ok same) earlier later first rest = as_later same earlier later first rest
  if_later (Err e) earlier later first none = tt

module _ {X : Type 0} (P : X → Type 0) (xs : List X) (i : ℕ) where
  -- one more passes
  pub one_passes : (d : X) → i < length xs → All P (take i xs) → P (get_or xs i d) → All P (take (i + 1) xs)
  one_passes d below so_far one =
      holds_one xs i (get_or xs i d) below (get_or_default xs i d (get_or xs i d) below) P so_far one

  -- all have passed
  pub all_pass : length xs ≤ i → All P (take i xs) → IsTrue true ↔ All P xs
  all_pass past so_far = (λ passed. holds_all xs i past P so_far, λ all. refl)

-- what is read from an atom's payload has no fault; so the atom has none exactly where it is what was read
pub read_back : (atom read : Atom) (same : Bool) → Decides same (read ≡ atom)
    → HasNoFault read → (HasNoFault atom → read ≡ atom)
    → IsTrue same ↔ HasNoFault atom
read_back atom read same exact sound only = (
  λ is. subst HasNoFault (exact.0 is) sound,
  λ has. exact.1 (only has),
)
