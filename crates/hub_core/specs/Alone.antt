-- A client in the hub of all, and the same client alone: in a hub that took in its own frames and no others.
use Rattle.std.specs.Prelude.{◌≡◌, ℕ, ◌<◌, ℤ, Bool, map, Option, Some, None}
use Rattle.atom_record.specs.declared.atom.Atom.{Atom}
use Rattle.bucket_meaning.specs.Ends.{Moment}
use Rattle.config_types.specs.declared.matcher.SimpleMatcher.{SimpleMatcher}
use Rattle.metric_meaning.specs.Histories.{History}
use Rattle.matcher_table.specs.Slots.{times_among}
use Rattle.matcher_table.specs.Tables.{SlotTable, result_at}
use Rattle.matcher_table.specs.Trees.{slot_tree}
use Rattle.matcher_table.specs.Truths.{Evaluates}
use Rattle.matcher_table.specs.Contents.{contents_of}
use Rattle.hub_core.specs.declared.live_instance.LiveInstance.{LiveInstance}
use Rattle.hub_core.specs.declared.hub.Hub.{Hub}
use Rattle.hub_core.specs.SharedTable.{slots_of}
use Rattle.hub_core.specs.Sleeping.{moment_of_clock, StandsAsleep}
use Rattle.hub_core.specs.Slots.{live_id, slot_at}

-- what a client has live under an id
abbrev pub live_at : {J : Type 0} → ℤ → ℤ → Hub J → Option LiveInstance
live_at client id hub = slot_at (live_id client id) hub.lives.slots.entries

-- what the hub's table of matchers contains
abbrev pub hub_table : {J : Type 0} → Hub J → SlotTable
hub_table hub = contents_of hub.lives.table

-- one of the client's configurations holds a slot
abbrev pub HoldsSlot : {J : Type 0} → ℤ → Hub J → ℕ → Type 0
HoldsSlot client hub s = (id : ℤ) × (0 < times_among s (slots_of (live_at client id hub)))

-- the last frame of the log, as a hub keeps it
abbrev pub last_moment : {J : Type 0} → Hub J → Moment
last_moment hub = moment_of_clock hub.clock

-- A configuration, shared and alone: both stand for one history up to where each may sleep, by the last frame of its
-- hub, and hold the same slots in config order, by other names.
pub record IsSameConfig (renamed : ℕ → ℕ) (moment moment_alone : Moment) (shared alone : LiveInstance) : Type 0 where
  pub history : History
  pub stands : StandsAsleep moment shared.carried.instance history
  pub stands_alone : StandsAsleep moment_alone alone.carried.instance history
  pub slots : alone.slots ≡ map renamed shared.slots

-- what is live under an id, shared and alone: one configuration, or none in both
abbrev pub IsSameLive : (ℕ → ℕ) → Moment → Moment → Option LiveInstance → Option LiveInstance → Type 0
IsSameLive renamed moment moment_alone None None = Unit {0}
IsSameLive renamed moment moment_alone (Some shared) (Some alone) =
    IsSameConfig renamed moment moment_alone shared alone
IsSameLive renamed moment moment_alone (Some shared) None = ⊥
IsSameLive renamed moment moment_alone None (Some alone) = ⊥

-- The client's part of the hub of all is its private run, but for the names of its slots. No two of them have one new
-- name, and by its new name each has the tree that it had and, whatever atom both tables are evaluated for, the same
-- result, whatever the judge.
pub record RunsAsAlone {J : Type 0} (client : ℤ) (shared alone : Hub J) : Type 0 where
  pub renamed : ℕ → ℕ
  pub live : (id : ℤ) → IsSameLive renamed (last_moment shared) (last_moment alone)
      (live_at client id shared) (live_at client id alone)
  pub apart : (s t : ℕ) → HoldsSlot client shared s → HoldsSlot client shared t → renamed s ≡ renamed t → s ≡ t
  pub trees : (s : ℕ) → HoldsSlot client shared s
      → slot_tree (hub_table alone).slots (renamed s) ≡ slot_tree (hub_table shared).slots s
  pub truths : (s : ℕ) → HoldsSlot client shared s → (says : SimpleMatcher → Atom → Bool) (atom : Atom)
      (next next_alone : SlotTable) → Evaluates says atom (hub_table shared) next
      → Evaluates says atom (hub_table alone) next_alone → result_at next_alone (renamed s) ≡ result_at next s
