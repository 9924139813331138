-- What a part's rows show, with what was turned away, is what arrived in it.
use Rattle.std.proofs.Common.{◌≡◌, ℕ, ◌+◌, ◌-◌, ◌≤◌, Bool, true, false, not, nat_le, List, [], ◌∷◌, filter, take, drop, length, refl, ap, arith, if◌then◌else◌}
use Rattle.std.specs.Bool.{Decides}
use Rattle.std.specs.List.{flat_map, sum_by}
use Rattle.std.proofs.lemmas.List.Sums.{sum_by-cons, sum_by-append, sum_by-take-drop}
use Rattle.bucket_meaning.specs.Guard.{is_among, of_key, admitted, turned_away}
use Rattle.bucket_meaning.specs.Kept.{kept}
use Rattle.bucket_meaning.specs.Marks.{Part}
use Rattle.bucket_meaning.specs.Rows.{Kind, row_of, rows_of}
use Rattle.bucket_meaning.proofs.GuardLemmas.{admitted-distinct}
use Rattle.metric_meaning.proofs.PartedLemmas.{sum_by-same, sum_by-flat_map, parted}

-- the contributions of one key come to no more than all
of_key-le : {K C : Type 0} (same : K → K → Bool) (amount : C → ℕ) (key : K) (arrivals : List (K × C))
    → sum_by amount (of_key same key arrivals) ≤ sum_by (λ (arrival : K × C). amount arrival.1) arrivals
of_key-le same amount key [] = omega arith
of_key-le {K} {C} same amount key (first ∷ arrivals) =
    let rest = of_key-le same amount key arrivals in
    let all = sum_by-cons (λ (arrival : K × C). amount arrival.1) first arrivals in
    by_case (same first.0 key) rest all where
      by_case : (b : Bool) → sum_by amount (of_key same key arrivals)
          ≤ sum_by (λ (arrival : K × C). amount arrival.1) arrivals
          → sum_by (λ (arrival : K × C). amount arrival.1) (first ∷ arrivals)
          ≡ amount first.1 + sum_by (λ (arrival : K × C). amount arrival.1) arrivals
          → sum_by amount (if b then first.1 ∷ of_key same key arrivals else of_key same key arrivals)
          ≤ sum_by (λ (arrival : K × C). amount arrival.1) (first ∷ arrivals)
      by_case true rest all = omega (arith, rest, all, sum_by-cons amount first.1 (of_key same key arrivals))
      by_case false rest all = omega (arith, rest, all)

-- what is kept is a front of all
pub kept_front : {R : Type 0} (weight : R → ℕ) (room : ℕ) (rows : List R)
    → take (length (kept weight room rows)) rows ≡ kept weight room rows
kept_front weight room [] = refl
kept_front weight room (row ∷ rows) =
    by_case (nat_le (weight row) room) (kept_front weight (room - weight row) rows) where
      by_case : (b : Bool)
          → take (length (kept weight (room - weight row) rows)) rows ≡ kept weight (room - weight row) rows
          → take (length (if b then row ∷ kept weight (room - weight row) rows else [])) (row ∷ rows)
          ≡ (if b then row ∷ kept weight (room - weight row) rows else [])
      by_case true rest = ap (λ l. row ∷ l) rest
      by_case false rest = refl

module _ {X K C R : Type 0} (kind : Kind X K C R) (bound : ℕ)
    (exact : (one other : K) → Decides (kind.same one other) (one ≡ other))
    (worth : R → ℕ) (hidden : (start end : ℕ) (others : List (K × C)) → sum_by worth (kind.others start end others) ≡ 0)
    (amount : C → ℕ) (fits : ℕ → Type 0) (fewer : (m n : ℕ) → m ≤ n → fits n → fits m)
    (shows : (start end : ℕ) (key : K) (contributions : List C) → fits (sum_by amount contributions)
    → sum_by worth (kind.row start end key contributions) ≡ sum_by amount contributions) where
  -- what all arrivals of a part come to
  abbrev arrived : Part X → ℕ
  arrived part = sum_by (λ (arrival : K × C). amount arrival.1) (kind.arrivals part.came part.end)

  -- and those that were turned away
  abbrev away : Part X → ℕ
  away part =
      sum_by (λ (arrival : K × C). amount arrival.1) (turned_away kind.same bound (kind.arrivals part.came part.end))

  -- One part balances.
  pub part_balances : (part : Part X) → fits (arrived part)
      → sum_by worth (rows_of kind bound part) + away part ≡ arrived part
  part_balances part few =
      let arrivals : List (K × C) = kind.arrivals part.came part.end in
      let keys : List K = admitted kind.same bound (kind.keys part.came) in
      let none = hidden part.start part.end (turned_away kind.same bound arrivals) in
      let all = sum_by-append worth (flat_map (row_of kind bound part) keys)
      (kind.others part.start part.end (turned_away kind.same bound arrivals)) in
      let each = sum_by-flat_map worth (row_of kind bound part) keys in
      let one = sum_by-same (λ key. sum_by worth (row_of kind bound part key))
      (λ key. sum_by amount (of_key kind.same key arrivals))
      (λ key. shows part.start part.end key (of_key kind.same key arrivals)
      (fewer (sum_by amount (of_key kind.same key arrivals)) (arrived part)
      (of_key-le kind.same amount key arrivals) few)) keys in
      let split = parted kind.same exact amount keys
      (admitted-distinct kind.same bound (kind.keys part.came)) arrivals in
      let gone = ap (λ ks. sum_by (λ (arrival : K × C). amount arrival.1)
      (filter (λ (arrival : K × C). not (is_among kind.same arrival.0 (admitted kind.same bound ks))) arrivals))
      (kind.keys_are part.came part.end) in
      omega (arith, none, all, each, one, split, gone)

-- Where each part balances, by its rows, what arrived in it and what was turned away.
module _ {X R : Type 0} (rows_in_part : Part X → List R) (arrived away : Part X → ℕ) (worth : R → ℕ) (fits : ℕ → Type 0)
    (fewer : (m n : ℕ) → m ≤ n → fits n → fits m)
    (balances : (part : Part X) → fits (arrived part)
    → sum_by worth (rows_in_part part) + away part ≡ arrived part) where
  -- Parts balance together.
  pub parts_balance : (parts : List (Part X)) → fits (sum_by arrived parts)
      → sum_by worth (flat_map rows_in_part parts) + sum_by away parts ≡ sum_by arrived parts
  parts_balance [] few = refl
  parts_balance (part ∷ parts) few =
      let total = sum_by-cons arrived part parts in
      let here = balances part (fewer (arrived part) (sum_by arrived (part ∷ parts)) (omega (arith, total)) few) in
      let rest = parts_balance parts
      (fewer (sum_by arrived parts) (sum_by arrived (part ∷ parts)) (omega (arith, total)) few) in
      let rows = sum_by-append worth (rows_in_part part) (flat_map rows_in_part parts) in
      let turned = sum_by-cons away part parts in
      omega (arith, total, here, rest, rows, turned)

  -- and with what is kept of their rows and what isn't apart
  pub told_balance : (weight : R → ℕ) (room : ℕ) (parts : List (Part X)) → fits (sum_by arrived parts)
      → let rows = flat_map rows_in_part parts in
      sum_by arrived parts ≡ sum_by worth (kept weight room rows)
      + sum_by worth (drop (length (kept weight room rows)) rows) + sum_by away parts
  told_balance weight room parts few =
      let rows : List R = flat_map rows_in_part parts in
      let both = sum_by-take-drop worth rows (length (kept weight room rows)) in
      let front = ap (sum_by worth) (kept_front weight room rows) in
      omega (arith, both, front, parts_balance parts few)
