-- The table of matchers that all live configurations share, and what each of them holds of it.
use Rattle.std.specs.Prelude.{◌≡◌, ℕ, List, [], Option, Some, None, sum_by}
use Rattle.std.specs.List.{All}
use Rattle.std.specs.Map.{keys_of}
use Rattle.std.specs.Option.{option_map}
use Rattle.heard_ids.specs.declared.hearing.Hearing.{Hearing}
use Rattle.link_graph.specs.Links.{AreInRange, HasNoCycle}
use Rattle.matcher_truths.specs.MatcherTruths.{named_places}
use Rattle.matcher_table.specs.Slots.{times_among}
use Rattle.matcher_table.specs.Tables.{SlotTable, outside_uses}
use Rattle.held_slots.specs.Holdings.{HoldMatchers}
use Rattle.held_slots.specs.HoldingSteps.{KeepsLive, AddsUses}
use Rattle.client_engine.specs.declared.live_id.LiveId.{LiveId}
use Rattle.client_engine.specs.Running.{linked_of}
use Rattle.hub_core.specs.declared.live_instance.LiveInstance.{LiveInstance}
use Rattle.hub_core.specs.CarriedConfigs.{IsCarriedOn}
use Rattle.hub_core.specs.NamedLives.{saved_rows, names_of, KeepConfigs}
use Rattle.hub_core.specs.Sleeping.{IsHearing}
use Rattle.hub_core.specs.Slots.{slot_at}

-- Each slot of a live configuration stands for its own matcher, no matcher is below itself, and it hears what its
-- linked form says.
pub record IsHeldIn (table : SlotTable) (live : LiveInstance) : Type 0 where
  pub slots : HoldMatchers table live.slots live.carried.instance.matchers
  pub in_range : AreInRange (named_places live.carried.instance.matchers)
  pub no_cycle : HasNoCycle (named_places live.carried.instance.matchers)
  pub hears : IsHearing live.hearing (linked_of live.carried.instance)

-- The matchers of a configuration came into a table: it holds them there, each place that holds a slot is one outside
-- use more, and what was live stays.
pub record IsInterned (old : SlotTable) (live : LiveInstance) (new : SlotTable) : Type 0 where
  pub holds : IsHeldIn new live
  pub uses : AddsUses old live.slots new
  pub others : KeepsLive old new

-- each of these configurations holds its matchers
abbrev pub AllHeld : SlotTable → List (LiveId × LiveInstance) → Type 0
AllHeld table rows = All (λ (row : LiveId × LiveInstance). IsHeldIn table row.1) rows

-- how many places of all their lists hold a slot
abbrev pub places_holding : ℕ → List (LiveId × LiveInstance) → ℕ
places_holding s rows = sum_by (λ (row : LiveId × LiveInstance). times_among s row.1.slots) rows

-- The table is held by these configurations: each slot that one holds stands for its own matcher, and the outside uses
-- of a slot are the places that hold it.
pub record IsHeldTable (table : SlotTable) (rows : List (LiveId × LiveInstance)) : Type 0 where
  pub all : AllHeld table rows
  pub uses : (s : ℕ) → outside_uses table s ≡ places_holding s rows

-- the slots of a configuration, if there is one
abbrev pub slots_of : Option LiveInstance → List ℕ
slots_of None = []
slots_of (Some live) = live.slots

-- A configuration has the slots that it had, is carried on, and hears the same.
pub record HasSameSlots (old new : LiveInstance) : Type 0 where
  pub slots : new.slots ≡ old.slots
  pub carried : IsCarriedOn old.carried new.carried
  pub hearing : new.hearing ≡ old.hearing

-- what stands under a name hears this, if something does
abbrev pub hearing_at : LiveId → List (LiveId × LiveInstance) → Option Hearing
hearing_at name rows = option_map (λ (live : LiveInstance). live.hearing) (slot_at name rows)

-- The names are the same, what is held of a table by these is held by those, and what stands under a name hears the
-- same and has the same name and bytes.
pub record KeepsSlots (olds news : List (LiveId × LiveInstance)) : Type 0 where
  pub names : keys_of news ≡ keys_of olds
  pub all : (table : SlotTable) → AllHeld table olds → AllHeld table news
  pub places : (s : ℕ) → places_holding s news ≡ places_holding s olds
  pub hearing : (name : LiveId) → hearing_at name news ≡ hearing_at name olds
  pub configs : KeepConfigs olds news
  pub named : names_of (saved_rows news) ≡ names_of (saved_rows olds)
