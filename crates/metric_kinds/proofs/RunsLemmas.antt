-- Runs, found by looking ahead, and what is summed by following them: lemmas on `specs/Runs.antt`.
use Rattle.std.proofs.Common.{◌≡◌, ℕ, ◌+◌, ◌-◌, ◌≤◌, Bool, true, false, not, ◌&&◌, ◌||◌, if◌then◌else◌, List, [], ◌∷◌, ◌++◌, map, sum, refl, sym, ap, subst, ◌∙◌, ⊎_elim, append-nil, append_assoc, arith}
use Rattle.std.specs.Prelude.{Decides}
use Rattle.std.specs.List.{AllByRecursion, IsDistinct}
use Rattle.std.proofs.lemmas.Bool.{cases_Bool, true≢false}
use Rattle.std.proofs.lemmas.List.Sums.{sum_by-cons, sum_by-append}
use Rattle.bucket_meaning.specs.Guard.{is_among, of_key}
use Rattle.metric_kinds.specs.Runs.{Active, next_time, time_so, run_end, newly, runs, runs_after, run_keys_after, active_time, last_keys, last_turn, DontFall, AreDistinct}

-- one more: the time grows by what lies between it and the new end, where it is so
pub time_so-push : {X : Type 0} (time : X → ℕ) (is_so : X → Bool) (xs : List X) (last : X) (end : ℕ)
    → time_so time is_so (xs ++ last ∷ []) end
    ≡ time_so time is_so xs (time last) + (if is_so last then end - time last else 0)
time_so-push time is_so [] last end = omega arith
time_so-push time is_so (first ∷ []) last end = omega arith
time_so-push time is_so (first ∷ second ∷ xs) last end =
    omega (arith, time_so-push time is_so (second ∷ xs) last end)

module _ {K : Type 0} (same : K → K → Bool) where
  -- the keys of one list more are those that it has anew
  pub run_keys-push : (before : List K) (came : List (Active K)) (now : Active K)
      → run_keys_after same before (came ++ now ∷ [])
      ≡ run_keys_after same before came ++ newly same (last_keys before came) now.keys
  run_keys-push before [] now = append-nil (newly same before now.keys)
  run_keys-push before (first ∷ came) now =
      ap (λ l. newly same before first.keys ++ l) (run_keys-push first.keys came now)
      ∙ sym (append_assoc (newly same before first.keys) (run_keys_after same first.keys came)
      (newly same (last_keys first.keys came) now.keys))

  -- one list more: a key's time grows by what it is active between that list and the new end
  pub active_time-push : (key : K) (came : List (Active K)) (now : Active K) (end : ℕ)
      → active_time same key (came ++ now ∷ []) end
      ≡ active_time same key came now.at + (if is_among same key now.keys then end - now.at else 0)
  active_time-push key came now end =
      time_so-push (λ (a : Active K). a.at) (λ (a : Active K). is_among same key a.keys) came now end

-- the contributions of a key in two lists, one after the other
chosen-append : {C : Type 0} (chosen : Bool) (x : C) (xs ys all : List C) → all ≡ xs ++ ys
    → (if chosen then x ∷ all else all) ≡ (if chosen then x ∷ xs else xs) ++ ys
chosen-append true x xs ys all is = ap (λ l. x ∷ l) is
chosen-append false x xs ys all is = is

-- a run that begins, goes on or doesn't at a list, beside what the key is active up to the next
one_more_list : (was is : Bool) (at next stop rest total : ℕ) → at ≤ next → next ≤ stop
    → rest + (if is then stop - next else 0) ≡ total
    → (if is && not was then stop - at else 0) + rest + (if was then (if is then stop else at) - at else 0)
    ≡ (if is then next - at else 0) + total
one_more_list true true at next stop rest total later last sums = omega (arith, sums)
one_more_list true false at next stop rest total later last sums = omega (arith, sums)
one_more_list false true at next stop rest total later last sums = omega (arith, sums)
one_more_list false false at next stop rest total later last sums = omega (arith, sums)

sum_chosen : (chosen : Bool) (x : ℕ) (xs : List ℕ)
    → sum (if chosen then x ∷ xs else xs) ≡ (if chosen then x + sum xs else sum xs)
sum_chosen true x xs = sum_by-cons (λ y. y) x xs
sum_chosen false x xs = refl

only_where : (here fresh : Bool) (n rest : ℕ) → here ≡ false → rest ≡ (if here && fresh then n else 0)
    → (if fresh then n + rest else rest) ≡ (if fresh then n else 0)
only_where true fresh n rest none is = absurd (true≢false none)
only_where false true n rest none is = omega (arith, is)
only_where false false n rest none is = is

both_alike : {A : Type 0} (first : Bool) (x : A) → (if first then x else x) ≡ x
both_alike true x = refl
both_alike false x = refl

-- the time of the next list, or the end
abbrev pub next_at : {K : Type 0} → List (Active K) → ℕ → ℕ
next_at {K} came end = next_time (λ (now : Active K). now.at) came end

module _ {K : Type 0} (same : K → K → Bool) where
  of_key-append : {C : Type 0} (key : K) (xs ys : List (K × C))
      → of_key same key (xs ++ ys) ≡ of_key same key xs ++ of_key same key ys
  of_key-append key [] ys = refl
  of_key-append key (x ∷ xs) ys =
      chosen-append (same x.0 key) x.1 (of_key same key xs) (of_key same key ys) (of_key same key (xs ++ ys))
      (of_key-append key xs ys)

  -- a run ends at the next list, or later
  run_end-after : (key : K) (came : List (Active K)) (from end : ℕ) → DontFall from came → last_turn from came ≤ end
      → next_at came end ≤ run_end same key came end
  run_end-after key [] from end timely ends = omega arith
  run_end-after key (now ∷ []) from end timely ends = grind arith
  run_end-after key (now ∷ next ∷ came) from end timely ends =
      let later = run_end-after key (next ∷ came) now.at end timely.1 ends in grind (arith, later)

  next_at-after : (came : List (Active K)) (from end : ℕ) → DontFall from came → last_turn from came ≤ end
      → from ≤ next_at came end
  next_at-after [] from end timely ends = ends
  next_at-after (now ∷ later) from end timely ends = timely.0

  -- the contributions of a key among those of keys that are chosen
  of_key-chosen : (key first : K) (length_of : K → ℕ) (keys : List K) (chosen : Bool)
      → let rest = sum (of_key same key (map (λ key. (key, length_of key)) keys)) in
      sum (of_key same key (map (λ key. (key, length_of key)) (if chosen then first ∷ keys else keys)))
      ≡ (if chosen then (if same first key then length_of first + rest else rest) else rest)
  of_key-chosen key first length_of keys true =
      sum_chosen (same first key) (length_of first) (of_key same key (map (λ key. (key, length_of key)) keys))
  of_key-chosen key first length_of keys false = refl

  module _ (exact : (x y : K) → Decides (same x y) (x ≡ y)) where
    -- a key that differs from all of these is none of them
    not_later : (first : K) (keys : List K) → AllByRecursion (λ key. same first key ≡ false) keys
        → is_among same first keys ≡ false
    not_later first [] differs = refl
    not_later first (key ∷ keys) differs = ⊎_elim
        (λ (alike : same key first ≡ true).
        let back : same first key ≡ true = (exact first key).1 (sym ((exact key first).0 alike)) in
        absurd (true≢false (sym back ∙ differs.0)))
        (λ (other : same key first ≡ false).
        ap (λ b. b || is_among same first keys) other ∙ not_later first keys differs.1)
        (cases_Bool (same key first))

    -- what the runs of one key that begin at a list add
    new_runs : (key : K) (before keys : List K) (length_of : K → ℕ) → IsDistinct same keys
        → sum (of_key same key (map (λ key. (key, length_of key)) (newly same before keys)))
        ≡ (if is_among same key keys && not (is_among same key before) then length_of key else 0)
    unfolding IsDistinct
    new_runs key before [] length_of once = refl
    new_runs key before (first ∷ keys) length_of once =
        let rest = sum (of_key same key (map (λ key. (key, length_of key)) (newly same before keys))) in
        let fresh = not (is_among same first before) in
        let later : rest
        ≡ (if is_among same key keys && not (is_among same key before) then length_of key else 0) =
        new_runs key before keys length_of once.1 in
        of_key-chosen key first length_of (newly same before keys) fresh ∙ ⊎_elim
        (λ (alike : same first key ≡ true).
        let is : first ≡ key = (exact first key).0 alike in
        let none : is_among same key keys ≡ false =
        subst (λ k. is_among same k keys ≡ false) is (not_later first keys once.0) in
        ap (λ b. if fresh then (if b then length_of first + rest else rest) else rest) alike
        ∙ ap (λ k. if not (is_among same k before) then length_of k + rest else rest) is
        ∙ only_where (is_among same key keys) (not (is_among same key before)) (length_of key) rest none later
        ∙ ap (λ b. if (b || is_among same key keys) && not (is_among same key before) then length_of key else 0)
        (sym alike))
        (λ (other : same first key ≡ false).
        ap (λ b. if fresh then (if b then length_of first + rest else rest) else rest) other
        ∙ both_alike fresh rest ∙ later
        ∙ ap (λ b. if (b || is_among same key keys) && not (is_among same key before) then length_of key else 0)
        (sym other))
        (cases_Bool (same first key))

    -- the lengths of a key's runs sum to the time for which it is active; a run that is under way before the lists has
    -- begun with none of them
    pub runs_time : (key : K) (before : List K) (came : List (Active K)) (from end : ℕ) → DontFall from came
        → last_turn from came ≤ end → AreDistinct same came
        → sum (of_key same key (runs_after same before came end))
        + (if is_among same key before then run_end same key came end - next_at came end else 0)
        ≡ active_time same key came end
    runs_time key before [] from end timely ends once = none (is_among same key before) where
      none : (was : Bool) → sum [] + (if was then end - end else 0) ≡ 0
      none true = omega arith
      none false = refl
    runs_time key before (now ∷ later) from end timely ends once =
        let length_of : K → ℕ = λ key. run_end same key later end - now.at in
        let fresh = map (λ key. (key, length_of key)) (newly same before now.keys) in
        let rest = runs_after same now.keys later end in
        let added : sum (of_key same key (fresh ++ rest))
        ≡ (if is_among same key now.keys && not (is_among same key before) then length_of key else 0)
        + sum (of_key same key rest) =
        ap sum (of_key-append key fresh rest)
        ∙ sum_by-append (λ x. x) (of_key same key fresh) (of_key same key rest)
        ∙ ap (λ n. n + sum (of_key same key rest)) (new_runs key before now.keys length_of once.0) in
        ap (λ n. n + (if is_among same key before then run_end same key (now ∷ later) end - now.at else 0)) added
        ∙ one_more_list (is_among same key before) (is_among same key now.keys) now.at (next_at later end)
        (run_end same key later end) (sum (of_key same key rest)) (active_time same key later end)
        (next_at-after later now.at end timely.1 ends) (run_end-after key later now.at end timely.1 ends)
        (runs_time key now.keys later now.at end timely.1 ends once.1)

    -- of a part whose times don't fall: the sum of a key's runs is the time for which it is active
    pub sum_of_runs : (key : K) (came : List (Active K)) (from end : ℕ) → DontFall from came → last_turn from came ≤ end
        → AreDistinct same came → sum (of_key same key (runs same came end)) ≡ active_time same key came end
    sum_of_runs key came from end timely ends once = omega (arith, runs_time key [] came from end timely ends once)
