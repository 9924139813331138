-- On specs/Fronts.antt: how far an input was taken, how the reading breaks off, and, for callers, what was taken of an
-- input that tells its bytes.
use Rattle.std.proofs.Common.{◌≡◌, ℕ, ◌<◌, ◌≤◌, List, [], ◌++◌, length, take, Some, sym, ap, ◌∙◌, arith, ⊎_elim}
use Rattle.std.proofs.lemmas.List.{append-nil, take-append-le, take_all}
use Rattle.sd_io.specs.States.{Input, input_with}
use Rattle.sd_io.specs.Causes.{Keeps, Rose, Takes}
use Rattle.sd_io.specs.declared.front.FrontError.TheVariants.{Read, Memory}
use Rattle.sd_io.specs.Fronts.{IsFrontTaken, CutsFront}
use Rattle.sd_io.proofs.CausesLemmas.{Takes-kept}

-- so much of the input was taken
pub record IsTakenSo (most : ℕ) (old new : Input) (bytes piece : List ℕ) : Type 0 where
  pub consumes : Takes old new bytes
  pub within : length bytes ≤ most
  pub later : old.faults ≤ new.faults
  pub room : 0 < length piece

-- the reading broke off for want of memory
pub cuts-Memory : (old new : Input) (taken : List ℕ) → Takes old new taken → CutsFront old new Memory
cuts-Memory old new taken consumes = record { taken = taken; consumes = consumes; rose = λ is. absurd (cc) }

-- the reading broke off at a read that failed and was counted
pub breaks-Read : (old mid new : Input) (taken : List ℕ) → Takes old mid taken → Keeps mid.left new.left
    → old.faults ≤ mid.faults → mid.faults ≤ new.faults → Rose mid.faults new.faults → CutsFront old new Read
breaks-Read old mid new taken consumes kept before later rose = record {
  taken = taken;
  consumes = Takes-kept old mid new taken consumes kept;
  rose = λ is. omega (arith, before, later, rose);
}

-- of an input that tells its bytes its first ones were taken
pub first_taken : (most : ℕ) (bytes taken rest : List ℕ) (faults : ℕ) → bytes ≡ taken ++ rest
    → IsFrontTaken most taken (input_with (Some rest) faults)
    → taken ≡ take most bytes
first_taken most bytes taken rest faults is whole = ⊎_elim
    (λ (all : length taken ≡ most).
    sym (take_all most taken whole.within) ∙ sym (take-append-le most taken rest (omega (arith, all)))
    ∙ ap (take most) (sym is))
    (λ (ended : rest ≡ []).
    sym (take_all most taken whole.within)
    ∙ ap (take most) (sym (is ∙ ap (λ r. taken ++ r) ended ∙ append-nil taken)))
    whole.whole
