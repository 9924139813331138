-- The books balance in numbers of arrivals, for kinds in which each that comes is one arrival, with its key.
use Rattle.std.proofs.Common.{◌≡◌, ℕ, ◌+◌, ◌-◌, ◌^◌, min, ◌<◌, ◌≤◌, Bool, List, [], ◌∷◌, ◌++◌, map, length, refl, sym, ap, ◌∙◌, arith}
use Rattle.std.specs.Bool.{Decides}
use Rattle.std.specs.List.{flat_map, sum_by, sum}
use Rattle.std.proofs.lemmas.List.{append-nil, map-append, length-append}
use Rattle.std.proofs.lemmas.List.Concat.{flat_map-append, length-flat_map}
use Rattle.std.proofs.lemmas.List.Sums.{sum_by-cons, sum_by-append}
use Rattle.sd_base.specs.Outputs.{outputs, outputs_after}
use Rattle.bucket_meaning.specs.Guard.{arrival_key, admitted, dropped, turned_away, of_key}
use Rattle.bucket_meaning.specs.Marks.{Part}
use Rattle.bucket_meaning.specs.Rows.{drops, row_of, rows_of}
use Rattle.bucket_meaning.proofs.GuardLemmas.{dropped-grows}
use Rattle.metric_producer.proofs.SpilledLemmas.{turned_away-count}
use Rattle.metric_meaning.specs.Histories.{What, Logged, Reported, Step}
use Rattle.metric_meaning.specs.StepMarks.{marks_of}
use Rattle.metric_meaning.specs.Ways.{Way}
use Rattle.metric_meaning.specs.Balance.{part_until, books_after, books_told, told_parts, told_drops, drops_by, waiting_parts, all_parts, shown_by_reports, not_kept_by_reports, waiting_for_report, arrived_in, turned_away_in}
use Rattle.metric_meaning.proofs.MarksBalance.{arrived_by_all, lost_at, all_that_came}
use Rattle.metric_meaning.proofs.PartedLemmas.{sum_by-same, sum_by-zero, sum_by-flat_map}
use Rattle.metric_meaning.proofs.AmountsBalance.{rows_balance, amounts_balance}
use Rattle.metric_meaning.proofs.StepsBalance.{IsQuietNews, drops_at, all_came, all_told}

-- each counts one
pub sum_by-ones : {X : Type 0} (xs : List X) → sum_by (λ (x : X). 1) xs ≡ length xs
sum_by-ones [] = refl
sum_by-ones (x ∷ xs) = omega (arith, sum_by-cons (λ y. 1) x xs, sum_by-ones xs, length-append (x ∷ []) xs)

module _ {K C R : Type 0} (way : Way (K × C) K C R) (quiet : IsQuietNews way.shown)
    (exact : (one other : K) → Decides (way.kind.same one other) (one ≡ other))
    (arrivals : (came : List (K × C)) (end : ℕ) → way.kind.arrivals came end ≡ came)
    (keys : (came : List (K × C)) → way.kind.keys came ≡ map arrival_key came) where
  abbrev one : C → ℕ
  one contribution = 1

  abbrev held : List (K × C) → ℕ
  held came = dropped way.kind.same way.bound (way.kind.keys came)

  held_nothing : held [] ≡ 0
  held_nothing = ap (dropped way.kind.same way.bound) (keys [])

  held_more : (came : List (K × C)) (what : K × C)
      → held came + drops way.kind way.bound came what ≡ held (came ++ what ∷ [])
  held_more came what =
      let before = ap (dropped way.kind.same way.bound) (keys came) in
      let now = ap (dropped way.kind.same way.bound)
      (keys (came ++ what ∷ []) ∙ map-append arrival_key came (what ∷ [])) in
      let grows = dropped-grows way.kind.same exact way.bound (map arrival_key came) what.0 in
      omega (arith, before, now, grows)

  abbrev few : ℕ → Type 0
  few n = n < 2 ^ 64

  fewer : (m n : ℕ) → m ≤ n → few n → few m
  fewer m n le fits = omega (arith, le, fits)

  part_numbers : (part : Part (K × C)) → arrived_in way one part ≡ length part.came
  part_numbers part = sum_by-ones (way.kind.arrivals part.came part.end) ∙ ap length (arrivals part.came part.end)

  part_away : (part : Part (K × C)) → turned_away_in way one part ≡ held part.came
  part_away part =
      ap (λ l. sum_by (λ (arrival : K × C). 1) (turned_away way.kind.same way.bound l)) (arrivals part.came part.end)
      ∙ sum_by-ones (turned_away way.kind.same way.bound part.came)
      ∙ turned_away-count way.kind.same way.bound part.came
      ∙ ap (dropped way.kind.same way.bound) (sym (keys part.came))

  -- a report tells the books' drops, if its number holds them
  told_drop : (before : List Step) (at : ℕ) (what : What) (truths : List Bool)
      → let step : Step = record { at = at; what = what; truths = truths } in
      sum (drops_at way quiet before step) < 2 ^ 64
      → sum (told_drops way before step) ≡ sum (drops_at way quiet before step)
  told_drop before at (Logged frame) truths fits = refl
  told_drop before at (Reported cut) truths fits =
      let n = (books_told way before cut at).dropped in
      let one_item = sum_by-cons (λ m. m) n [] in
      let shown = sum_by-cons (λ m. m) (min n (2 ^ 64 - 1)) [] in
      omega (arith, one_item, shown, fits)

  -- and so do all reports
  told_all : (before steps : List Step) → sum (outputs_after (drops_at way quiet) before steps) < 2 ^ 64
      → sum (outputs_after (told_drops way) before steps) ≡ sum (outputs_after (drops_at way quiet) before steps)
  told_all before [] fits = refl
  told_all before (step ∷ steps) fits =
      let later = before ++ step ∷ [] in
      let all = sum_by-append (λ m. m) (drops_at way quiet before step)
      (outputs_after (drops_at way quiet) later steps) in
      let shown = sum_by-append (λ m. m) (told_drops way before step) (outputs_after (told_drops way) later steps) in
      let here = told_drop before step.at step.what step.truths (omega (arith, all, fits)) in
      let rest = told_all later steps (omega (arith, all, fits)) in
      omega (arith, all, shown, here, rest)

  -- How many have arrived.
  abbrev pub came_by : List Step → ℕ
  came_by steps = length (arrived_by_all (marks_of way.shown way.base way.size steps))

  arrived_all : (steps : List Step) (now : ℕ) → sum_by (arrived_in way one) (all_parts way steps now) ≡ came_by steps
  arrived_all steps now =
      let books = books_after way steps in
      let told = outputs (told_parts way) steps in
      let each = sum_by-same (arrived_in way one) (λ (part : Part (K × C)). length part.came) part_numbers
      (all_parts way steps now) in
      let lists = length-flat_map (λ (part : Part (K × C)). part.came) (all_parts way steps now) in
      let in_books : flat_map (λ (part : Part (K × C)). part.came) (waiting_parts way steps now) ≡ all_that_came books =
      flat_map-append (λ (part : Part (K × C)). part.came) books.closed (part_until books now ∷ [])
      ∙ ap (λ l. flat_map (λ (part : Part (K × C)). part.came) books.closed ++ l) (append-nil books.came) in
      each ∙ sym lists
      ∙ ap length (flat_map-append (λ (part : Part (K × C)). part.came) told (waiting_parts way steps now)
      ∙ ap (λ l. flat_map (λ (part : Part (K × C)). part.came) told ++ l) in_books ∙ all_came way quiet steps)

  away_all : (steps : List Step) (now : ℕ)
      → sum_by (turned_away_in way one) (all_parts way steps now) + sum_by lost_at
      (marks_of way.shown way.base way.size steps)
      ≡ sum (outputs (drops_at way quiet) steps) + (books_after way steps).dropped
  away_all steps now =
      let books = books_after way steps in
      let told = outputs (told_parts way) steps in
      let each = sum_by-same (turned_away_in way one) (λ (part : Part (K × C)). held part.came) part_away
      (all_parts way steps now) in
      let apart = sum_by-append (λ (part : Part (K × C)). held part.came) told (waiting_parts way steps now) in
      let in_books = sum_by-append (λ (part : Part (K × C)). held part.came) books.closed (part_until books now ∷ []) in
      let law = all_told way quiet held held_nothing held_more steps in
      omega (arith, each, apart, in_books, law)

  -- so many were dropped as were turned away, if their number holds them, and no table of the metric's own turned
  -- one away
  dropped_all : (steps : List Step) (now : ℕ) → sum_by (turned_away_in way one) (all_parts way steps now) < 2 ^ 64
      → sum_by lost_at (marks_of way.shown way.base way.size steps) ≡ 0
      → drops_by way steps ≡ sum_by (turned_away_in way one) (all_parts way steps now)
  dropped_all steps now fits none_lost =
      let away = away_all steps now in
      let counted = told_all [] steps (omega (arith, away, none_lost, fits)) in
      omega (arith, away, none_lost, counted)

  -- Where an arrival of a key is in its row, and in no other.
  module _ (worth : R → ℕ)
      (hidden : (start end : ℕ) (others : List (K × C)) → sum_by worth (way.kind.others start end others) ≡ 0)
      (shows : (start end : ℕ) (key : K) (contributions : List C) → length contributions < 2 ^ 64
      → sum_by worth (way.kind.row start end key contributions) ≡ length contributions) where
    shows_one : (start end : ℕ) (key : K) (contributions : List C) → few (sum_by one contributions)
        → sum_by worth (way.kind.row start end key contributions) ≡ sum_by one contributions
    shows_one start end key contributions fits =
        let ones = sum_by-ones contributions in
        shows start end key contributions (omega (arith, ones, fits)) ∙ sym ones

    -- all that arrived, by where it is
    amounts : (steps : List Step) (now : ℕ) → came_by steps < 2 ^ 64
        → came_by steps
        ≡ shown_by_reports way worth steps + not_kept_by_reports way worth steps
        + sum_by (turned_away_in way one) (all_parts way steps now) + waiting_for_report way worth steps now
    amounts steps now fits =
        let all = arrived_all steps now in
        let balance = amounts_balance way exact worth hidden one few fewer shows_one steps now
        (omega (arith, all, fits)) in
        omega (arith, all, balance)

    -- no more were turned away than arrived
    pub away_fits : (steps : List Step) (now : ℕ) → came_by steps < 2 ^ 64
        → sum_by (turned_away_in way one) (all_parts way steps now) < 2 ^ 64
    away_fits steps now fits = omega (arith, fits, amounts steps now fits)

    -- The books balance in numbers, if not too many arrived, and no table of the metric's own turned one away.
    pub numbers_balance : (steps : List Step) (now : ℕ) → came_by steps < 2 ^ 64
        → sum_by lost_at (marks_of way.shown way.base way.size steps) ≡ 0
        → came_by steps
        ≡ shown_by_reports way worth steps + not_kept_by_reports way worth steps + drops_by way steps
        + waiting_for_report way worth steps now
    numbers_balance steps now fits none_lost =
        omega (arith, amounts steps now fits, dropped_all steps now (away_fits steps now fits) none_lost)

  -- Where the arrivals that were turned away are in a row of their own, and no others.
  module _ (worth : R → ℕ)
      (gathers : (start end : ℕ) (others : List (K × C)) → length others < 2 ^ 64
      → sum_by worth (way.kind.others start end others) ≡ length others)
      (apart : (start end : ℕ) (key : K) (contributions : List C)
      → sum_by worth (way.kind.row start end key contributions) ≡ 0) where
    -- one part
    part_gathers : (part : Part (K × C)) → few (turned_away_in way one part)
        → sum_by worth (rows_of way.kind way.bound part) + 0 ≡ turned_away_in way one part
    part_gathers part fits =
        let others : List (K × C) =
        turned_away way.kind.same way.bound (way.kind.arrivals part.came part.end) in
        let ks : List K = admitted way.kind.same way.bound (way.kind.keys part.came) in
        let all = sum_by-append worth (flat_map (row_of way.kind way.bound part) ks)
        (way.kind.others part.start part.end others) in
        let each = sum_by-flat_map worth (row_of way.kind way.bound part) ks in
        let none = sum_by-same (λ key. sum_by worth (row_of way.kind way.bound part key)) (λ key. 0)
        (λ key. apart part.start part.end key
        (of_key way.kind.same key (way.kind.arrivals part.came part.end))) ks in
        let zero = sum_by-zero ks in
        let ones = sum_by-ones others in
        let gathered = gathers part.start part.end others (omega (arith, ones, fits)) in
        omega (arith, all, each, none, zero, ones, gathered)

    -- What was dropped is gathered.
    pub gathered_balance : (steps : List Step) (now : ℕ)
        → sum_by (turned_away_in way one) (all_parts way steps now) < 2 ^ 64
        → sum_by lost_at (marks_of way.shown way.base way.size steps) ≡ 0
        → drops_by way steps
        ≡ shown_by_reports way worth steps + not_kept_by_reports way worth steps
        + waiting_for_report way worth steps now
    gathered_balance steps now fits none_lost =
        let parts = all_parts way steps now in
        let rows = rows_balance way (turned_away_in way one) (λ part. 0) worth few fewer part_gathers steps now fits in
        let none = sum_by-zero parts in
        omega (arith, rows, none, dropped_all steps now fits none_lost)
