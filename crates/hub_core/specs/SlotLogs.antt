-- What a frame of the log makes of all that is live.
use Rattle.std.specs.Prelude.{◌≡◌, ℕ, Bool, false, List, [], map, Option, Some, None}
use Rattle.std.specs.Bool.{MatchBool}
use Rattle.std.specs.List.{All}
use Rattle.atom_record.specs.declared.atom.Atom.{Atom}
use Rattle.atom_record.specs.declared.log.LogFrame.{LogFrame}
use Rattle.atom_record.specs.declared.log.LogFrame.TheVariants.{AtomAt}
use Rattle.config_types.specs.declared.matcher.SimpleMatcher.{SimpleMatcher}
use Rattle.id_notes.specs.declared.notes.Notes.{Notes}
use Rattle.id_notes.specs.Noted.{is_named}
use Rattle.matcher_table.specs.Tables.{SlotTable, result_at}
use Rattle.matcher_table.specs.Truths.{Evaluates, questions}
use Rattle.client_engine.specs.InstanceStands.{Logs, linked_of}
use Rattle.client_engine.specs.declared.live_id.LiveId.{LiveId}
use Rattle.hub_core.specs.declared.live_instance.LiveInstance.{LiveInstance}
use Rattle.hub_core.specs.FrameTruths.{LogsBy}
use Rattle.hub_core.specs.LoggedFrames.{ShownFrame, LoggedFrame}
use Rattle.hub_core.specs.NotedLives.{noted_for}
use Rattle.hub_core.specs.SharedTable.{HasSameSlots}
use Rattle.hub_core.specs.DifferentMatchers.{count_different}
use Rattle.hub_core.specs.Sleeping.{hears, LogsAwake}
use Rattle.hub_core.specs.Slots.{same_id, slot_at}

-- how many questions of a judge all of these are worth: one for each different simple matcher of an atom's id
abbrev pub asked_by_all : LogFrame → List (LiveId × LiveInstance) → ℕ
asked_by_all (AtomAt at atom) rows = count_different atom rows
asked_by_all _ rows = 0

-- none of these configurations hears a frame
abbrev pub NoneHears : LogFrame → List (LiveId × LiveInstance) → Type 0
NoneHears frame rows =
    All (λ (row : LiveId × LiveInstance). hears (linked_of row.1.carried.instance) frame ≡ false) rows

-- the results of slots, for an atom alone
abbrev pub results_for : SlotTable → LogFrame → List ℕ → List Bool
results_for table (AtomAt at atom) slots = map (result_at table) slots
results_for table _ slots = []

-- how many questions a table asks of a judge for a frame
abbrev pub questions_for : LogFrame → SlotTable → ℕ
questions_for (AtomAt at atom) table = questions atom table.slots
questions_for _ table = 0

-- A configuration that was awake took the frame that is shown so, with the results of its slots, and keeps its slots.
pub record IsTaken (logged : LoggedFrame) (old new : LiveInstance) : Type 0 where
  pub logs : Logs old.carried.instance logged.shown.frame (results_for logged.table logged.shown.frame old.slots)
      logged.shown.book new.carried.instance
  pub same : HasSameSlots old new

-- A configuration woke up by the frame before, took the frame that is shown so, with the results of its slots, and
-- keeps its slots.
pub record IsShown (logged : LoggedFrame) (old new : LiveInstance) : Type 0 where
  pub logs : LogsAwake logged.shown.before old.carried.instance logged.shown.frame
      (results_for logged.table logged.shown.frame old.slots) logged.shown.book new.carried.instance
  pub same : HasSameSlots old new

module _ (logged : LoggedFrame) where
  -- what stood under a name took the frame so
  abbrev pub FoundShown : Option LiveInstance → Option LiveInstance → Type 0
  FoundShown None None = Unit {0}
  FoundShown (Some old) (Some new) = IsShown logged old new
  FoundShown None (Some new) = ⊥
  FoundShown (Some old) None = ⊥

  -- what stands under these names took the frame so, and all else is as it was
  abbrev pub NamedShown : List LiveId → List (LiveId × LiveInstance) → List (LiveId × LiveInstance) → Type 0
  NamedShown names olds news =
      (name : LiveId) → MatchBool (is_named same_id name names) (FoundShown (slot_at name olds) (slot_at name news))
      (slot_at name news ≡ slot_at name olds)

  -- what stands under the names that are noted for the frame took it so, and all else is as it was
  abbrev pub NotedShown : Notes LiveId → List (LiveId × LiveInstance) → List (LiveId × LiveInstance) → Type 0
  NotedShown notes olds news = NamedShown (noted_for notes logged.shown.frame) olds news

module _ (says : SimpleMatcher → Atom → Bool) where
  -- a table is evaluated for an atom, and for no other frame
  abbrev pub EvaluatesFor : LogFrame → SlotTable → SlotTable → Type 0
  EvaluatesFor (AtomAt at atom) old new = Evaluates says atom old new
  EvaluatesFor _ old new = new ≡ old

  module _ (shown : ShownFrame) where
    -- what stood under a name woke up by the frame before and took the frame that is shown so, if it hears it, and else
    -- is as it was
    abbrev pub FoundLogs : Option LiveInstance → Option LiveInstance → Type 0
    FoundLogs None None = Unit {0}
    FoundLogs (Some old) (Some new) =
        MatchBool (hears (linked_of old.carried.instance) shown.frame)
        (LogsBy says shown.before shown.frame shown.book old.carried.instance new.carried.instance) (new ≡ old)
    FoundLogs None (Some new) = ⊥
    FoundLogs (Some old) None = ⊥

    -- the same of each name
    abbrev pub AllLog : List (LiveId × LiveInstance) → List (LiveId × LiveInstance) → Type 0
    AllLog olds news = (name : LiveId) → FoundLogs (slot_at name olds) (slot_at name news)
