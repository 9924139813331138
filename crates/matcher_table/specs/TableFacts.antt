-- What is so of every table, between two calls.
use Rattle.std.specs.Prelude.{◌≡◌, ◌≢◌, ℕ, ◌+◌, ◌<◌, None}
use Rattle.matcher_table.specs.Slots.{matcher_at, child_uses}
use Rattle.matcher_table.specs.Tables.{SlotTable, outside_uses}
use Rattle.matcher_table.specs.Trees.{slot_tree, TreesMeetTheirStep, ChildrenAreLive}

-- A slot is live exactly where it has a use. Equal matchers have one slot, and no slot is below itself.
pub record IsSoundTable (table : SlotTable) : Type 0 where
  pub used : (s : ℕ) → matcher_at table.slots s ≢ None → 0 < outside_uses table s + child_uses table.slots s
  pub unused : (s : ℕ) → matcher_at table.slots s ≡ None → outside_uses table s + child_uses table.slots s ≡ 0
  pub apart : (s t : ℕ) → matcher_at table.slots s ≢ None → matcher_at table.slots s ≡ matcher_at table.slots t → s ≡ t
  pub children : ChildrenAreLive table.slots
  pub trees : TreesMeetTheirStep table.slots

-- a slot that is live before and after has the tree that it had
abbrev pub KeepsTrees : SlotTable → SlotTable → Type 0
KeepsTrees old new =
    (s : ℕ) → matcher_at old.slots s ≢ None → matcher_at new.slots s ≢ None
    → slot_tree new.slots s ≡ slot_tree old.slots s
