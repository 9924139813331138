-- The intervals that end at the steps of a part and at its end are those that are read ahead from its start.
use Rattle.std.proofs.Common.{◌≡◌, ℕ, Bool, true, false, not, ◌&&◌, List, [], ◌∷◌, ◌++◌, Option, Some, None, refl, sym, ap, ◌∙◌, append_assoc}
use Rattle.std.proofs.Math.Path.{subst}
use Rattle.std.specs.Prelude.{map, is_some, if◌then◌else◌}
use Rattle.std.specs.List.{last_or}
use Rattle.std.proofs.lemmas.List.{append-nil}
use Rattle.sd_base.specs.Outputs.{outputs, outputs_after}
use Rattle.sd_base.proofs.OutputsLemmas.{outputs-push}
use Rattle.metric_kinds.specs.Intervals.{Interval, Seen, intervals_of, open_after, ended_at_moment, intervals_followed}
use Rattle.metric_kinds.proofs.IntervalsLemmas.{intervals_followed-ahead}
use Rattle.metric_meaning.specs.Histories.{Step}
use Rattle.metric_meaning.specs.PulledIntervals.{Watch, seen_after, all_seen, part_starts, begun_if, begun_with_parts, begun_by_step, all_begun, open_interval, open_before, ended_by_step, ended_by_boundary, ended_again}

-- the last of some, and one more
last_or-push : {A : Type 0} (first : Option A) (xs : List A) (x : A) → last_or first (xs ++ x ∷ []) ≡ Some x
last_or-push first [] x = refl
last_or-push first (y ∷ xs) x = last_or-push (Some y) xs x

-- if the condition is true, some interval is open
abbrev pub IsOpen : {S : Type 0} → Bool → Option S → Type 0
IsOpen held last = held ≡ true → is_some last ≡ true

module _ {S : Type 0} where
  -- the last of some and others
  last_or-append : (first : Option S) (xs ys : List S) → last_or first (xs ++ ys) ≡ last_or (last_or first xs) ys
  last_or-append first [] ys = refl
  last_or-append first (x ∷ xs) ys = last_or-append (Some x) xs ys

  -- the last of the same ones
  last_same : (found : S) (starts : List ℕ) → last_or (Some found) (map (λ start. found) starts) ≡ Some found
  last_same found [] = refl
  last_same found (start ∷ starts) = last_same found starts

  -- of intervals that begin with parts the last is open
  last_with_parts : (begun : List S) (found : S) (start : ℕ) (starts : List ℕ)
      → last_or None (begun ++ map (λ start. found) (start ∷ starts)) ≡ Some found
  last_with_parts begun found start starts =
      last_or-append None begun (map (λ start. found) (start ∷ starts)) ∙ last_same found starts

  -- some interval is open once parts have begun, if one was
  open_with_parts : (held : Bool) (starts : List ℕ) (begun : List S) (found : S) → IsOpen held (last_or None begun)
      → IsOpen held (last_or None (begun ++ (if held then map (λ start. found) starts else [])))
  open_with_parts true [] begun found opens is = ap (λ l. is_some (last_or None l)) (append-nil begun) ∙ opens refl
  open_with_parts true (start ∷ starts) begun found opens is = ap is_some (last_with_parts begun found start starts)
  open_with_parts false starts begun found opens is = absurd cc

  -- where no part begins nothing begins with one
  with_no_part : (held : Bool) (begun : List S) → begun ++ (if held then [] else []) ≡ begun
  with_no_part true begun = append-nil begun
  with_no_part false begun = append-nil begun

  -- an interval that is open goes on while the condition is true
  goes_on : (last : Option S) (found : S) → is_some last ≡ true
      → last ≡ open_after last (record { holds = true; found = found })
  goes_on (Some begun) found is = refl
  goes_on None found is = absurd cc

  -- without a true condition none is open
  none_open : (last : Option S) (found : S) → None ≡ open_after last (record { holds = false; found = found })
  none_open (Some begun) found = refl
  none_open None found = refl

  -- what is open after a step is the last that has begun, one that began at the step included
  after_step : (held holds : Bool) (begun : List S) (found : S) → IsOpen held (last_or None begun)
      → let now : Seen S = record { holds = holds; found = found } in
      (if holds then last_or None (begun ++ (if holds && not held then found ∷ [] else [])) else None)
      ≡ open_after (if held then last_or None begun else None) now
  after_step true true begun found opens =
      ap (last_or None) (append-nil begun) ∙ goes_on (last_or None begun) found (opens refl)
  after_step false true begun found opens = last_or-push None begun found
  after_step held false begun found opens = none_open (if held then last_or None begun else None) found

  -- some interval is open after a step if the condition is true then
  open_after_step : (held holds : Bool) (begun : List S) (found : S) → IsOpen held (last_or None begun)
      → IsOpen holds (last_or None (begun ++ (if holds && not held then found ∷ [] else [])))
  open_after_step true true begun found opens is = ap (λ l. is_some (last_or None l)) (append-nil begun) ∙ opens refl
  open_after_step false true begun found opens is = ap is_some (last_or-push None begun found)
  open_after_step held false begun found opens is = absurd cc

module _ {S : Type 0} (watch : Watch S) where
  -- what has begun after a step
  all_begun-push : (before : List Step) (step : Step)
      → all_begun watch (before ++ step ∷ [])
      ≡ (all_begun watch before ++ begun_with_parts watch before step) ++ begun_by_step watch before step
  all_begun-push before step =
      let first = begun_if watch (watch.holds []) [] in
      let begun_at : List Step → Step → List S =
      λ before step. begun_with_parts watch before step ++ begun_by_step watch before step in
      ap (λ l. first ++ l) (outputs-push begun_at before step)
      ∙ sym (append_assoc first (outputs begun_at before) (begun_at before step))
      ∙ sym (append_assoc (all_begun watch before)
      (begun_with_parts watch before step) (begun_by_step watch before step))

  -- after these steps some interval is open if the condition is true
  abbrev pub OpenAfter : List Step → Type 0
  OpenAfter steps = IsOpen (watch.holds steps) (last_or None (all_begun watch steps))

  open_before_step : (before : List Step) (step : Step) → OpenAfter before
      → IsOpen (watch.holds before) (last_or None (all_begun watch before ++ begun_with_parts watch before step))
  open_before_step before step opens =
      open_with_parts (watch.holds before) (part_starts watch before step) (all_begun watch before)
      (watch.found before) opens

  open_step : (before : List Step) (step : Step) → OpenAfter before → OpenAfter (before ++ step ∷ [])
  open_step before step opens is =
      let after = before ++ step ∷ [] in
      ap (λ l. is_some (last_or None l)) (all_begun-push before step)
      ∙ open_after_step (watch.holds before) (watch.holds after)
      (all_begun watch before ++ begun_with_parts watch before step) (watch.found after)
      (open_before_step before step opens) is

  open_steps : (before later : List Step) → OpenAfter before → OpenAfter (before ++ later)
  open_steps before [] opens = subst OpenAfter (sym (append-nil before)) opens
  open_steps before (step ∷ later) opens =
      subst OpenAfter (append_assoc before (step ∷ []) later)
      (open_steps (before ++ step ∷ []) later (open_step before step opens))

  first_open : OpenAfter []
  first_open = by (watch.holds []) (watch.found []) where
    by : (held : Bool) (found : S) → IsOpen held (last_or None ((if held then found ∷ [] else []) ++ []))
    by true found is = refl
    by false found is = absurd cc

  -- while the condition is true, some interval is open
  pub open_while_held : (steps : List Step) → OpenAfter steps
  open_while_held steps = open_steps [] steps first_open

  -- what is open after a step is what it made of what was open before
  pub open_interval-push : (before : List Step) (step : Step)
      → open_interval watch (before ++ step ∷ [])
      ≡ open_after (open_before watch before step) (seen_after watch (before ++ step ∷ []))
  open_interval-push before step =
      let after = before ++ step ∷ [] in
      ap (λ l. if watch.holds after then last_or None l else None) (all_begun-push before step)
      ∙ after_step (watch.holds before) (watch.holds after)
      (all_begun watch before ++ begun_with_parts watch before step) (watch.found after)
      (open_before_step before step (open_while_held before))

  -- at a step at which no part begins, that is open which was open before
  pub inside_part : (before : List Step) (step : Step) → part_starts watch before step ≡ []
      → open_before watch before step ≡ open_interval watch before
  inside_part before step inside =
      let held = watch.holds before in
      let opened : List S → Option S = λ begun. if held then last_or None begun else None in
      let begun = all_begun watch before in
      ap (λ starts. opened (begun ++ (if held then map (λ start. watch.found before) starts else []))) inside
      ∙ ap opened (with_no_part held begun)

  -- at a step at which parts begin, that is open which begins with the last of them
  pub at_part_start : (before : List Step) (step : Step) (start : ℕ) (starts : List ℕ)
      → part_starts watch before step ≡ start ∷ starts
      → open_before watch before step ≡ open_after None (seen_after watch before)
  at_part_start before step start starts is =
      let held = watch.holds before in
      let opened : List S → Option S = λ begun. if held then last_or None begun else None in
      let begun = all_begun watch before in
      ap (λ starts. opened (begun ++ (if held then map (λ start. watch.found before) starts else []))) is
      ∙ by held begun (watch.found before) where
        by : (held : Bool) (begun : List S) (found : S)
            → (if held then last_or None (begun ++ (if held then map (λ start. found) (start ∷ starts) else []))
            else None)
            ≡ open_after None (record { holds = held; found = found })
        by true begun found = last_with_parts begun found start starts
        by false begun found = refl

  -- so it is at the installation
  pub at_installation : open_interval watch [] ≡ open_after None (seen_after watch [])
  at_installation = by (watch.holds []) (watch.found []) where
    by : (held : Bool) (found : S)
        → (if held then last_or None ((if held then found ∷ [] else []) ++ []) else None)
        ≡ open_after None (record { holds = held; found = found })
    by true found = refl
    by false found = refl

  -- no part begins at these steps, after others
  abbrev pub StartNone : List Step → List Step → Type 0
  StartNone before [] = Unit {0}
  StartNone before (step ∷ later) =
      (part_starts watch before step ≡ []) × StartNone (before ++ step ∷ []) later

  -- what ends at these steps, after others, and at a boundary after them
  abbrev pub ended_in : List Step → List Step → List (Interval S)
  ended_in before steps =
      outputs_after (ended_by_step watch) before steps ++ ended_by_boundary watch (before ++ steps)

  -- a step, before some at which what ends is followed
  followed_step : (before : List Step) (step : Step) (later : List Step) (going : Option S)
      → open_before watch before step ≡ going
      → (let after = before ++ step ∷ [] in
      ended_in after later
      ≡ intervals_followed (open_interval watch after) (watch.found after) (all_seen watch after later))
      → ended_in before (step ∷ later)
      ≡ intervals_followed going (watch.found before) (all_seen watch before (step ∷ later))
  followed_step before step later going is follows =
      let after = before ++ step ∷ [] in
      let here = ended_by_step watch before step in
      let others = outputs_after (ended_by_step watch) after later in
      let now = seen_after watch after in
      let rest : Option S → List (Interval S) =
      λ open_now. intervals_followed open_now now.found (all_seen watch after later) in
      append_assoc here others (ended_by_boundary watch (before ++ step ∷ later))
      ∙ ap (λ steps. here ++ (others ++ ended_by_boundary watch steps)) (sym (append_assoc before (step ∷ []) later))
      ∙ ap (λ l. here ++ l) follows
      ∙ ap (λ open_now. here ++ rest open_now) (open_interval-push before step)
      ∙ ap (λ was. ended_at_moment was now ++ rest (open_after was now)) is

  -- what ends inside a part is followed from what is open
  followed : (before steps : List Step) → StartNone before steps
      → ended_in before steps
      ≡ intervals_followed (open_interval watch before) (watch.found before) (all_seen watch before steps)
  followed before [] inside = ap (ended_by_boundary watch) (append-nil before)
  followed before (step ∷ later) inside =
      followed_step before step later (open_interval watch before) (inside_part before step inside.0)
      (followed (before ++ step ∷ []) later inside.1)

  -- The intervals that end in the first part are those that are read ahead from the installation.
  pub first_part : (steps : List Step) → StartNone [] steps
      → ended_in [] steps ≡ intervals_of (seen_after watch [] ∷ all_seen watch [] steps)
  first_part steps inside =
      followed [] steps inside
      ∙ ap (λ going. intervals_followed going (watch.found []) (all_seen watch [] steps)) at_installation
      ∙ intervals_followed-ahead (seen_after watch []) (all_seen watch [] steps)

  -- The intervals that end in the last part that begins at a step are those that are read ahead from its start.
  pub later_part : (before : List Step) (step : Step) (later : List Step) (start : ℕ) (starts : List ℕ)
      → part_starts watch before step ≡ start ∷ starts → StartNone (before ++ step ∷ []) later
      → ended_in before (step ∷ later)
      ≡ intervals_of (seen_after watch before ∷ all_seen watch before (step ∷ later))
  later_part before step later start starts is inside =
      followed_step before step later (open_after None (seen_after watch before))
      (at_part_start before step start starts is)
      (followed (before ++ step ∷ []) later inside)
      ∙ intervals_followed-ahead (seen_after watch before) (all_seen watch before (step ∷ later))

  -- The intervals of a part without steps, as in a jump over many buckets, are what ends again at each of its ends.
  pub empty_part : (before : List Step) → ended_again watch before ≡ intervals_of (seen_after watch before ∷ [])
  empty_part before = intervals_followed-ahead (seen_after watch before) []
