-- What a table of matchers contains.
use Rattle.std.specs.Prelude.{◌≡◌, ℕ, Bool, false, List, Option, slice_index_or}
use Rattle.matcher_table.specs.declared.shared.SharedMatcher.{SharedMatcher}

-- what each slot stands for, the number of the next new slot, and for each slot its outside uses and its last result
pub record SlotTable : Type 0 where
  pub slots : List (Option SharedMatcher)
  pub next : ℕ
  pub outside : List ℕ
  pub results : List Bool

-- the interns of a slot less its releases
abbrev pub outside_uses : SlotTable → ℕ → ℕ
outside_uses table s = slice_index_or table.outside s 0

-- the truth of a slot for the last atom; false where none came since the slot was made
abbrev pub result_at : SlotTable → ℕ → Bool
result_at table s = slice_index_or table.results s false

-- both contain the same, whatever room they have
pub record IsUnchanged (old new : SlotTable) : Type 0 where
  pub slots : new.slots ≡ old.slots
  pub next : new.next ≡ old.next
  pub outside : (s : ℕ) → outside_uses new s ≡ outside_uses old s
  pub results : (s : ℕ) → result_at new s ≡ result_at old s
