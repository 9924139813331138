-- What the calls of a table do to what it contains.
use Rattle.std.specs.Prelude.{◌≡◌, ◌≢◌, ◌⊎◌, ℕ, ◌+◌, ◌<◌, false, Some, None}
use Rattle.matcher_table.specs.declared.shared.SharedMatcher.{SharedMatcher}
use Rattle.matcher_table.specs.Slots.{matcher_at}
use Rattle.matcher_table.specs.Tables.{SlotTable, outside_uses, result_at}

-- every slot but one has what it had
pub record KeepsOthers (old new : SlotTable) (slot : ℕ) : Type 0 where
  pub kept : (s : ℕ) → s ≢ slot → matcher_at new.slots s ≡ matcher_at old.slots s
  pub outside : (s : ℕ) → s ≢ slot → outside_uses new s ≡ outside_uses old s
  pub results : (s : ℕ) → s ≢ slot → result_at new s ≡ result_at old s

-- a live slot stands for the matcher already
abbrev pub HasSlot : SlotTable → SharedMatcher → ℕ → Type 0
HasSlot table shared slot = matcher_at table.slots slot ≡ Some shared

-- One more outside use of a matcher: of the slot that stands for it, or of a new one.
pub record Interns (old : SlotTable) (shared : SharedMatcher) (slot : ℕ) (new : SlotTable) : Type 0 where
  pub here : HasSlot new shared slot
  pub outside : outside_uses new slot ≡ outside_uses old slot + 1
  pub others : KeepsOthers old new slot
  pub one : (s : ℕ) → HasSlot old shared s → slot ≡ s
  pub found : HasSlot old shared slot → (result_at new slot ≡ result_at old slot) × (new.next ≡ old.next)
  pub made : matcher_at old.slots slot ≡ None
      → (slot ≡ old.next) × (outside_uses old slot ≡ 0) × (result_at new slot ≡ false)
  pub either : HasSlot old shared slot ⊎ (matcher_at old.slots slot ≡ None)

-- One outside use fewer. What has no use any more is gone.
pub record Releases (old : SlotTable) (slot : ℕ) (new : SlotTable) : Type 0 where
  pub outside : outside_uses new slot + 1 ≡ outside_uses old slot
  pub others : (s : ℕ) → s ≢ slot → outside_uses new s ≡ outside_uses old s
  pub kept : (s : ℕ) → matcher_at new.slots s ≢ None → matcher_at new.slots s ≡ matcher_at old.slots s
  pub stays : (s : ℕ) → 0 < outside_uses new s → matcher_at new.slots s ≡ matcher_at old.slots s
  pub results : (s : ℕ) → matcher_at new.slots s ≢ None → result_at new s ≡ result_at old s
  pub none_freed : matcher_at new.slots slot ≢ None → (new.slots ≡ old.slots) × (new.next ≡ old.next)
  pub one_freed : matcher_at new.slots slot ≡ None
      → ((s : ℕ) → s ≢ slot → matcher_at new.slots s ≡ matcher_at old.slots s) → new.next ≡ slot
