-- How many questions a frame may cost all that is live: how often predicates are asked for the truth of a condition.
use Rattle.std.specs.Prelude.{◌≡◌, ℕ, ◌+◌, ◌≤◌, ℤ, Bool, true, List, Some, if◌then◌else◌}
use Rattle.std.specs.List.{sum_by}
use Rattle.std.specs.Map.{keys_of}
use Rattle.std.specs.Option.{option_map_or}
use Rattle.atom_record.specs.declared.atom.Atom.{Atom}
use Rattle.atom_record.specs.declared.log.LogFrame.{LogFrame}
use Rattle.atom_record.specs.declared.log.LogFrame.TheVariants.{AtomAt}
use Rattle.config_types.specs.declared.matcher.SimpleMatcher.{SimpleMatcher}
use Rattle.config_links.specs.Verdict.{linked_form}
use Rattle.session_frames.specs.declared.frame.Frame.{Frame}
use Rattle.session_frames.specs.declared.frame.Frame.TheVariants.{Log}
use Rattle.session_frames.specs.Faultless.{IsInTime}
use Rattle.hub_meaning.specs.SessionLog.{own, clock_of}
use Rattle.hub_meaning.specs.Acceptance.{LiveConfig}
use Rattle.hub_meaning.specs.LiveConfigs.{config_at, live, history_of, truths_at}
use Rattle.id_notes.specs.declared.notes.Notes.{Notes}
use Rattle.id_notes.specs.Noted.{is_named}
use Rattle.client_engine.specs.InstanceStands.{AsksAtMost}
use Rattle.client_engine.specs.Questions.{questions_at}
use Rattle.client_engine.specs.declared.live_id.LiveId.{LiveId}
use Rattle.hub_core.specs.declared.hub.Hub.{Hub}
use Rattle.hub_core.specs.declared.live_instance.LiveInstance.{LiveInstance}
use Rattle.hub_core.specs.FrameTruths.{truths_by}
use Rattle.hub_core.specs.HubStands.{HubStandsFor}
use Rattle.hub_core.specs.LoggedFrames.{ShownFrame, LoggedFrame}
use Rattle.hub_core.specs.NotedLives.{noted_for}
use Rattle.hub_core.specs.SlotLogs.{results_for}
use Rattle.hub_core.specs.Sleeping.{AsksAwake}
use Rattle.hub_core.specs.Slots.{same_id, slot_at}

module _ (says : SimpleMatcher → Atom → Bool) where
  -- the questions of a client's live configuration at a frame of the log that comes after these own frames
  abbrev pub config_questions : ℤ → List Frame → LogFrame → LiveConfig → ℕ
  config_questions uid frames frame config =
      questions_at (history_of says uid frames config) frame (truths_at says (linked_form config.config uid) frame)

  -- the questions of what is live under a name, if something is
  abbrev pub name_questions : List Frame → LogFrame → LiveId → ℕ
  name_questions frames frame name =
      let mine = own name.uid frames in
      option_map_or (config_questions name.uid mine frame) (config_at name.id (live mine)) 0

  -- the questions of all that is live in a hub at a frame that comes after these: only an atom costs any
  abbrev pub questions_in : {J : Type 0} → Hub J → List Frame → Frame → ℕ
  questions_in hub frames (Log (AtomAt at atom)) =
      sum_by (name_questions frames (AtomAt at atom)) (keys_of hub.lives.slots.entries)
  questions_in hub frames _ = 0

  -- whatever frames a hub stands for, if this frame may come next, a counter rises by no more than its questions
  abbrev pub AsksInTime : {J : Type 0} → Hub J → Frame → ℕ → ℕ → Type 0
  AsksInTime hub frame before after =
      (frames : List Frame) → HubStandsFor says hub frames → IsInTime (clock_of frames) frame
      → after ≤ before + questions_in hub frames frame

-- a live configuration that is awake asks no more than its metrics may, with the results of its slots
abbrev pub AwakeAsks : LoggedFrame → LiveInstance → ℕ → ℕ → Type 0
AwakeAsks logged live before after =
    AsksAtMost live.carried.instance logged.shown.frame (results_for logged.table logged.shown.frame live.slots)
    logged.shown.book before after

-- the same of one that slept up to this frame
abbrev pub LiveAsks : LoggedFrame → LiveInstance → ℕ → ℕ → Type 0
LiveAsks logged live before after =
    AsksAwake logged.shown.before live.carried.instance logged.shown.frame
    (results_for logged.table logged.shown.frame live.slots) logged.shown.book before after

-- what a name among these counts, and 0 of any other
abbrev pub counted_for : List LiveId → (LiveId → ℕ) → LiveId → ℕ
counted_for names most name = if is_named same_id name names then most name else 0

-- whatever what stands under these names may ask, each by its name, all ask no more than the sum
abbrev pub NamesAsk : LoggedFrame → List LiveId → List (LiveId × LiveInstance) → ℕ → ℕ → Type 0
NamesAsk logged names rows before after =
    (most : LiveId → ℕ)
    → ((name : LiveId) (live : LiveInstance) → is_named same_id name names ≡ true → slot_at name rows ≡ Some live
    → (from to : ℕ) → LiveAsks logged live from to → to ≤ from + most name)
    → after ≤ before + sum_by (counted_for names most) (keys_of rows)

-- the same of the names that are noted for the frame
abbrev pub NotedAsk : LoggedFrame → Notes LiveId → List (LiveId × LiveInstance) → ℕ → ℕ → Type 0
NotedAsk logged notes rows before after = NamesAsk logged (noted_for notes logged.shown.frame) rows before after

-- whatever each of these may ask, by its name and by what a judge says of the matchers, all ask no more than the sum
abbrev pub AllAskBy : (SimpleMatcher → Atom → Bool) → ShownFrame → List (LiveId × LiveInstance) → ℕ → ℕ → Type 0
AllAskBy says shown rows before after =
    (most : LiveId → ℕ)
    → ((name : LiveId) (live : LiveInstance) → slot_at name rows ≡ Some live → (from to : ℕ)
    → AsksAwake shown.before live.carried.instance shown.frame
    (truths_by says live.carried.instance.matchers shown.frame) shown.book from to
    → to ≤ from + most name)
    → after ≤ before + sum_by most (keys_of rows)
