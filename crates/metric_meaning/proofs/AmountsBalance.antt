-- The books balance in what arrivals come to, for kinds whose rows show that.
use Rattle.std.proofs.Common.{◌≡◌, ℕ, ◌+◌, ◌≤◌, Bool, List, [], ◌∷◌, ◌++◌, refl, arith}
use Rattle.std.specs.Bool.{Decides}
use Rattle.std.specs.List.{sum_by}
use Rattle.std.proofs.lemmas.List.Sums.{sum_by-append}
use Rattle.sd_base.specs.Outputs.{outputs, outputs_after}
use Rattle.bucket_meaning.specs.Kept.{most_weight}
use Rattle.bucket_meaning.specs.Marks.{Part}
use Rattle.bucket_meaning.specs.Rows.{rows_of}
use Rattle.metric_meaning.specs.Histories.{What, Logged, Reported, Step}
use Rattle.metric_meaning.specs.Ways.{Way}
use Rattle.metric_meaning.specs.Balance.{books_told, told_parts, shown_rows, unkept_rows, waiting_parts, all_parts, shown_by_reports, not_kept_by_reports, waiting_for_report, arrived_in, turned_away_in}
use Rattle.metric_meaning.proofs.PartsBalance.{part_balances, parts_balance, told_balance}

-- Where each part balances, by what arrived in it and what was turned away.
module _ {X K C R : Type 0} (way : Way X K C R) (arrived away : Part X → ℕ) (worth : R → ℕ) (fits : ℕ → Type 0)
    (fewer : (m n : ℕ) → m ≤ n → fits n → fits m)
    (balances : (part : Part X) → fits (arrived part)
    → sum_by worth (rows_of way.kind way.bound part) + away part ≡ arrived part) where
  -- what a report tells balances
  told_one : (before : List Step) (at : ℕ) (what : What) (truths : List Bool)
      → let step : Step = record { at = at; what = what; truths = truths } in
      fits (sum_by arrived (told_parts way before step))
      → sum_by arrived (told_parts way before step)
      ≡ sum_by worth (shown_rows way before step) + sum_by worth (unkept_rows way before step)
      + sum_by away (told_parts way before step)
  told_one before at (Logged frame) truths few = refl
  told_one before at (Reported cut) truths few =
      told_balance (rows_of way.kind way.bound) arrived away worth fits fewer balances way.kind.weight most_weight
      (books_told way before cut at).closed few

  -- what all reports tell balances
  told_balances : (before steps : List Step)
      → fits (sum_by arrived (outputs_after (told_parts way) before steps))
      → sum_by arrived (outputs_after (told_parts way) before steps)
      ≡ sum_by worth (outputs_after (shown_rows way) before steps)
      + sum_by worth (outputs_after (unkept_rows way) before steps)
      + sum_by away (outputs_after (told_parts way) before steps)
  told_balances before [] few = refl
  told_balances before (step ∷ steps) few =
      let later = before ++ step ∷ [] in
      let here = told_parts way before step in
      let others = outputs_after (told_parts way) later steps in
      let all = sum_by-append arrived here others in
      let away = sum_by-append away here others in
      let front = sum_by-append worth (shown_rows way before step) (outputs_after (shown_rows way) later steps) in
      let back = sum_by-append worth (unkept_rows way before step) (outputs_after (unkept_rows way) later steps) in
      let total = sum_by arrived (here ++ others) in
      let first = told_one before step.at step.what step.truths
      (fewer (sum_by arrived here) total (omega (arith, all)) few) in
      let rest = told_balances later steps
      (fewer (sum_by arrived others) total (omega (arith, all)) few) in
      omega (arith, all, away, front, back, first, rest)

  -- The books balance.
  pub rows_balance : (steps : List Step) (now : ℕ) → fits (sum_by arrived (all_parts way steps now))
      → sum_by arrived (all_parts way steps now)
      ≡ shown_by_reports way worth steps + not_kept_by_reports way worth steps
      + sum_by away (all_parts way steps now) + waiting_for_report way worth steps now
  rows_balance steps now few =
      let told = outputs (told_parts way) steps in
      let waits = waiting_parts way steps now in
      let total = sum_by arrived (all_parts way steps now) in
      let apart = sum_by-append arrived told waits in
      let apart_away = sum_by-append away told waits in
      let reported = told_balances [] steps
      (fewer (sum_by arrived told) total (omega (arith, apart)) few) in
      let waiting = parts_balance (rows_of way.kind way.bound) arrived away worth fits fewer balances waits
      (fewer (sum_by arrived waits) total (omega (arith, apart)) few) in
      omega (arith, apart, apart_away, reported, waiting)

-- For kinds whose rows show what the arrivals of their keys come to.
module _ {X K C R : Type 0} (way : Way X K C R)
    (exact : (one other : K) → Decides (way.kind.same one other) (one ≡ other)) (worth : R → ℕ)
    (hidden : (start end : ℕ) (others : List (K × C)) → sum_by worth (way.kind.others start end others) ≡ 0)
    (amount : C → ℕ) (fits : ℕ → Type 0) (fewer : (m n : ℕ) → m ≤ n → fits n → fits m)
    (shows : (start end : ℕ) (key : K) (contributions : List C) → fits (sum_by amount contributions)
    → sum_by worth (way.kind.row start end key contributions) ≡ sum_by amount contributions) where
  -- The books balance.
  pub amounts_balance : (steps : List Step) (now : ℕ) → fits (sum_by (arrived_in way amount) (all_parts way steps now))
      → sum_by (arrived_in way amount) (all_parts way steps now)
      ≡ shown_by_reports way worth steps + not_kept_by_reports way worth steps
      + sum_by (turned_away_in way amount) (all_parts way steps now) + waiting_for_report way worth steps now
  amounts_balance = rows_balance way (arrived_in way amount) (turned_away_in way amount) worth fits fewer
      (part_balances way.kind way.bound exact worth hidden amount fits fewer shows)
