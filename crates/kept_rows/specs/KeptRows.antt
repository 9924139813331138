-- What is kept of the rows that a metric closed since its last report.
use Rattle.std.specs.Prelude.{◌≡◌, ℕ, ◌+◌, ◌-◌, ◌≤◌, max, List, [], ◌++◌, length}
use Rattle.std.specs.List.{sum_by}
use Rattle.bucket_meaning.specs.Kept.{kept, count_in_u64, most_weight}

-- What a contract sees: the kept rows, what they weigh in all, and how many other rows there were.
pub record Keeping (R : Type 0) : Type 0 where
  pub rows : List R
  pub used : ℕ
  pub others : ℕ

-- of no rows
abbrev pub nothing_kept : {R : Type 0} → Keeping R
nothing_kept = record { rows = []; used = 0; others = 0 }

-- a list weighs as many as it has, and one at least
abbrev pub list_weight : {A : Type 0} → List A → ℕ
list_weight items = max (length items) 1

-- so much may be kept: what the rows weigh in all has a bound, and a row weighs one at least, so there are no more rows
-- than that
pub record IsWithinWeight {R : Type 0} (weigh : R → ℕ) (rows : List R) (used : ℕ) : Type 0 where
  pub weighs : used ≡ sum_by weigh rows
  pub bounded : used ≤ most_weight
  pub few : length rows ≤ used

-- a row of this weight would be kept: all rows so far are, and it fits beside them
pub record HasRoom {R : Type 0} (it : Keeping R) (weight : ℕ) : Type 0 where
  pub none_turned_away : it.others ≡ 0
  pub fits : it.used + weight ≤ most_weight

module _ {R : Type 0} (weight : R → ℕ) where
  -- of all these rows the longest front is kept that the bound allows, and the others are counted
  pub record IsKept (all : List R) (it : Keeping R) : Type 0 where
    pub rows : it.rows ≡ kept weight most_weight all
    pub used : it.used ≡ sum_by weight it.rows
    pub others : it.others ≡ count_in_u64 (length all - length it.rows)

  -- whatever rows the old one was of, the new one is of those and these
  abbrev pub AddsRows : Keeping R → Keeping R → List R → Type 0
  AddsRows old new more = (all : List R) → IsKept all old → IsKept (all ++ more) new
