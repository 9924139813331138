-- What holding and releasing slots does to a table.
use Rattle.std.specs.Prelude.{◌≡◌, ◌≢◌, ℕ, ◌+◌, ◌<◌, List, None}
use Rattle.matcher_table.specs.Slots.{matcher_at, times_among}
use Rattle.matcher_table.specs.Tables.{SlotTable, outside_uses}

-- what is live stays as it is
abbrev pub KeepsLive : SlotTable → SlotTable → Type 0
KeepsLive old new =
    (s : ℕ) → matcher_at old.slots s ≢ None → matcher_at new.slots s ≡ matcher_at old.slots s

-- each slot has one outside use more for each place of the list that holds it
abbrev pub AddsUses : SlotTable → List ℕ → SlotTable → Type 0
AddsUses old slots new = (s : ℕ) → outside_uses new s ≡ outside_uses old s + times_among s slots

-- Each slot has one outside use fewer for each place of the list that held it, and what has one left stays.
pub record ReleasesAll (old : SlotTable) (slots : List ℕ) (new : SlotTable) : Type 0 where
  pub outside : AddsUses new slots old
  pub stays : (s : ℕ) → 0 < outside_uses new s → matcher_at new.slots s ≡ matcher_at old.slots s
