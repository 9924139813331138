-- The intervals by calls, one more call at a time; and the intervals of a part are those that are read ahead.
use Rattle.std.proofs.Common.{◌≡◌, ℕ, Bool, true, false, not, ◌&&◌, List, [], ◌∷◌, ◌++◌, map, Option, Some, None, is_some, if◌then◌else◌, refl, sym, ap, subst, ◌∙◌, append_assoc, append-nil}
use Rattle.std.specs.List.{flat_map, last_or}
use Rattle.std.proofs.lemmas.Grind.{flat_map-append}
use Rattle.sd_base.proofs.OutputsLemmas.{outputs-push}
use Rattle.predicate_state.specs.declared.truth.Truth.{Truth}
use Rattle.predicate_state.specs.declared.truth.Truth.TheVariants.{Unknown}
use Rattle.metric_producer.specs.Calls.{Learned}
use Rattle.metric_kinds.specs.Diffs.{KeyedInts}
use Rattle.metric_kinds.specs.Intervals.{open_after}
use Rattle.value_metric.specs.PulledValues.{PulledValueCall, snapshot_told, truth_told, told_last, is_truth, last_found, is_told_true}
use Rattle.value_metric.specs.CallIntervals.{starts_at, begun_at_boundaries, begun_by_call, begun_by_calls, open_by_calls}

module _ {A : Type 0} where
  -- the last of some and others
  last_or-append : (first : Option A) (xs ys : List A) → last_or first (xs ++ ys) ≡ last_or (last_or first xs) ys
  last_or-append first [] ys = refl
  last_or-append first (x ∷ xs) ys = last_or-append (Some x) xs ys

  -- the last of the same ones
  last_same : (found : A) (starts : List ℕ) → last_or (Some found) (map (λ start. found) starts) ≡ Some found
  last_same found [] = refl
  last_same found (start ∷ starts) = last_same found starts

  -- what is told last by some and others
  told_last-append : (before : A) (xs ys : List A) → told_last before (xs ++ ys) ≡ told_last (told_last before xs) ys
  told_last-append before [] ys = refl
  told_last-append before (x ∷ xs) ys = told_last-append x xs ys

  -- what is told last, once one more call is made
  told_last-push : {C : Type 0} (before : A) (tells : C → List A) (calls : List C) (call : C)
      → told_last before (flat_map tells (calls ++ call ∷ []))
      ≡ told_last (told_last before (flat_map tells calls)) (tells call)
  told_last-push before tells calls call =
      ap (told_last before) (flat_map-append tells calls (call ∷ [])
      ∙ ap (λ l. flat_map tells calls ++ l) (append-nil (tells call)))
      ∙ told_last-append before (flat_map tells calls) (tells call)

-- what is found after one more call
pub last_found-push : (calls : List PulledValueCall) (call : PulledValueCall)
    → last_found (calls ++ call ∷ []) ≡ told_last (last_found calls) (snapshot_told call)
last_found-push calls call = told_last-push None snapshot_told calls call

-- the truth that these calls told last
abbrev pub last_truth : List PulledValueCall → Truth
last_truth calls = told_last Unknown (flat_map truth_told calls)

-- whether the condition is true after one more call
pub is_told_true-push : (calls : List PulledValueCall) (call : PulledValueCall)
    → is_told_true (calls ++ call ∷ []) ≡ is_truth (told_last (last_truth calls) (truth_told call))
is_told_true-push calls call = ap is_truth (told_last-push Unknown truth_told calls call)

module _ {S : Type 0} where
  -- what is open after a call, by whether the condition was true before it and is after it, what had begun, where parts
  -- begin at it, and what is found before and after it
  abbrev opened : Bool → Bool → List S → List ℕ → S → S → Option S
  opened held holds begun starts found next =
      if holds then last_or None (begun ++ ((if held then map (λ start. found) starts else [])
      ++ (if holds && not held then next ∷ [] else []))) else None

  -- if the condition is true, some interval is open
  abbrev IsOpen : Bool → List S → Type 0
  IsOpen held begun = is_some (if held then last_or None begun else None) ≡ held

  -- of intervals that begin with parts the last is open
  last_with_parts : (begun : List S) (found : S) (start : ℕ) (starts : List ℕ)
      → last_or None (begun ++ (map (λ start. found) (start ∷ starts) ++ [])) ≡ Some found
  last_with_parts begun found start starts =
      last_or-append None begun (map (λ start. found) (start ∷ starts) ++ [])
      ∙ last_or-append (Some found) (map (λ start. found) starts) []
      ∙ last_same found starts

  -- some interval is open after a call if the condition is true then
  opened_is : (held holds : Bool) (begun : List S) (starts : List ℕ) (found next : S) → IsOpen held begun
      → is_some (opened held holds begun starts found next) ≡ holds
  opened_is held false begun starts found next is = refl
  opened_is false true begun starts found next is = ap is_some (last_or-append None begun (next ∷ []))
  opened_is true true begun [] found next is = ap (λ l. is_some (last_or None l)) (append-nil begun) ∙ is
  opened_is true true begun (start ∷ starts) found next is = ap is_some (last_with_parts begun found start starts)

  -- where no part begins and the condition stays, that is open which was open
  open_stays : (held : Bool) (begun : List S) (found next : S)
      → opened held held begun [] found next ≡ (if held then last_or None begun else None)
  open_stays true begun found next = ap (last_or None) (append-nil begun)
  open_stays false begun found next = refl

  -- an interval that is open goes on while the condition is true
  goes_on : (last : Option S) (found : S) → is_some last ≡ true
      → last ≡ open_after last (record { holds = true; found = found })
  goes_on (Some begun) found is = refl
  goes_on None found is = absurd cc

  -- without a true condition none is open
  none_open : (last : Option S) (found : S) → None ≡ open_after last (record { holds = false; found = found })
  none_open (Some begun) found = refl
  none_open None found = refl

  -- where no part begins, a condition makes of what was open what is open
  open_learned : (held holds : Bool) (begun : List S) (found next : S) → IsOpen held begun
      → opened held holds begun [] found next
      ≡ open_after (if held then last_or None begun else None) (record { holds = holds; found = next })
  open_learned true true begun found next is =
      ap (last_or None) (append-nil begun) ∙ goes_on (last_or None begun) next is
  open_learned false true begun found next is = last_or-append None begun (next ∷ [])
  open_learned held false begun found next is = none_open (if held then last_or None begun else None) next

  -- where parts begin, that is open which begins with the last of them
  open_begins : (held : Bool) (begun : List S) (start : ℕ) (starts : List ℕ) (found next : S)
      → opened held held begun (start ∷ starts) found next ≡ (if held then Some found else None)
  open_begins true begun start starts found next = last_with_parts begun found start starts
  open_begins false begun start starts found next = refl

-- what is open after one more call
open_by_calls-push : (calls : List PulledValueCall) (call : PulledValueCall)
    → let after = calls ++ call ∷ [] in
    open_by_calls after
    ≡ opened (is_told_true calls) (is_told_true after) (begun_by_calls calls) (starts_at call) (last_found calls)
    (last_found after)
open_by_calls-push calls call =
    let begun_at : List PulledValueCall → PulledValueCall → List (Option KeyedInts) =
    λ before call. begun_at_boundaries before call ++ begun_by_call before call in
    ap (λ l. if is_told_true (calls ++ call ∷ []) then last_or None l else None) (outputs-push begun_at calls call)

-- while the condition is true, some interval is open
abbrev OpenAfter : List PulledValueCall → Type 0
OpenAfter calls = is_some (open_by_calls calls) ≡ is_told_true calls

open_call : (calls : List PulledValueCall) (call : PulledValueCall) → OpenAfter calls → OpenAfter (calls ++ call ∷ [])
open_call calls call is =
    let after = calls ++ call ∷ [] in
    ap is_some (open_by_calls-push calls call)
    ∙ opened_is (is_told_true calls) (is_told_true after) (begun_by_calls calls) (starts_at call) (last_found calls)
    (last_found after) is

open_calls : (before later : List PulledValueCall) → OpenAfter before → OpenAfter (before ++ later)
open_calls before [] is = subst OpenAfter (sym (append-nil before)) is
open_calls before (call ∷ later) is =
    subst OpenAfter (append_assoc before (call ∷ []) later)
    (open_calls (before ++ call ∷ []) later (open_call before call is))

pub open_while_held : (calls : List PulledValueCall) → is_some (open_by_calls calls) ≡ is_told_true calls
open_while_held calls = open_calls [] calls refl

-- where a call begins no part and tells no condition, that is open which was open
pub open-same : (calls : List PulledValueCall) (call : PulledValueCall) → starts_at call ≡ [] → truth_told call ≡ []
    → open_by_calls (calls ++ call ∷ []) ≡ open_by_calls calls
open-same calls call starts told =
    let after = calls ++ call ∷ [] in
    open_by_calls-push calls call
    ∙ ap (λ holds. opened (is_told_true calls) holds (begun_by_calls calls) (starts_at call) (last_found calls)
    (last_found after))
    (is_told_true-push calls call ∙ ap (λ l. is_truth (told_last (last_truth calls) l)) told)
    ∙ ap (λ l. opened (is_told_true calls) (is_told_true calls) (begun_by_calls calls) l (last_found calls)
    (last_found after)) starts
    ∙ open_stays (is_told_true calls) (begun_by_calls calls) (last_found calls) (last_found after)

-- what a condition makes of what was open
pub open-learned : (calls : List PulledValueCall) (at : ℕ) (now : Truth)
    → open_by_calls (calls ++ Learned at now ∷ [])
    ≡ open_after (open_by_calls calls) (record { holds = is_truth now; found = last_found calls })
open-learned calls at now =
    let after = calls ++ Learned at now ∷ [] in
    open_by_calls-push calls (Learned at now)
    ∙ ap (λ holds. opened (is_told_true calls) holds (begun_by_calls calls) [] (last_found calls) (last_found after))
    (is_told_true-push calls (Learned at now))
    ∙ ap (λ next. opened (is_told_true calls) (is_truth now) (begun_by_calls calls) [] (last_found calls) next)
    (last_found-push calls (Learned at now))
    ∙ open_learned (is_told_true calls) (is_truth now) (begun_by_calls calls) (last_found calls) (last_found calls)
    (open_while_held calls)

-- where a call begins parts, an interval begins if the condition is true
pub open-begins : (calls : List PulledValueCall) (call : PulledValueCall) (start : ℕ) (starts : List ℕ)
    → starts_at call ≡ start ∷ starts → truth_told call ≡ []
    → open_by_calls (calls ++ call ∷ []) ≡ (if is_told_true calls then Some (last_found calls) else None)
open-begins calls call start starts begins told =
    let after = calls ++ call ∷ [] in
    open_by_calls-push calls call
    ∙ ap (λ holds. opened (is_told_true calls) holds (begun_by_calls calls) (starts_at call) (last_found calls)
    (last_found after))
    (is_told_true-push calls call ∙ ap (λ l. is_truth (told_last (last_truth calls) l)) told)
    ∙ ap (λ l. opened (is_told_true calls) (is_told_true calls) (begun_by_calls calls) l (last_found calls)
    (last_found after)) begins
    ∙ open_begins (is_told_true calls) (begun_by_calls calls) start starts (last_found calls) (last_found after)
