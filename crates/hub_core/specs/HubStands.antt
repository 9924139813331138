-- What the hub of all clients stands for.
use Rattle.std.specs.Prelude.{◌≡◌, ℕ, ℤ, Bool, false, List, [], ◌∷◌, ◌++◌, length, Option, Some, None, Result, IfOk, OnOk}
use Rattle.atom_record.specs.declared.atom.Atom.{Atom}
use Rattle.config_types.specs.declared.matcher.SimpleMatcher.{SimpleMatcher}
use Rattle.session_frames.specs.declared.frame.Frame.{Frame}
use Rattle.session_frames.specs.declared.frame.Frame.TheVariants.{Log}
use Rattle.session_frames.specs.declared.reply.Reply.{Reply}
use Rattle.session_frames.specs.Faultless.{IsInTime}
use Rattle.session_frames.specs.declared.reply.ReplyBody.{ReplyBody}
use Rattle.hub_meaning.specs.SessionLog.{own, log_frames, clock_of}
use Rattle.hub_meaning.specs.Acceptance.{LiveConfig}
use Rattle.hub_meaning.specs.LiveConfigs.{config_at, live, install_bytes, history_of}
use Rattle.hub_meaning.specs.ClientAnswers.{reply_of, reply_to}
use Rattle.bucket_meaning.specs.Ends.{Moment}
use Rattle.client_engine.specs.InstanceStands.{linked_of, last_step_time}
use Rattle.client_engine.specs.declared.live_id.LiveId.{LiveId}
use Rattle.matcher_table.specs.Contents.{contents_of}
use Rattle.matcher_table.specs.Truths.{HaveRisen}
use Rattle.hub_core.specs.declared.live_instance.LiveInstance.{LiveInstance}
use Rattle.hub_core.specs.declared.lives.Lives.{Lives}
use Rattle.hub_core.specs.declared.hub.Hub.{Hub}
use Rattle.hub_core.specs.BookStands.{BooksStandFor}
use Rattle.hub_core.specs.SharedTable.{IsHeldTable}
use Rattle.hub_core.specs.Sleeping.{moment_of_clock, hears, StandsAsleep}
use Rattle.hub_core.specs.SlotLogs.{asked_by_all}
use Rattle.hub_core.specs.Slots.{live_id, slot_at, count_at}

-- the judge of a hub
abbrev pub judge_of : {J : Type 0} → Hub J → J
judge_of hub = hub.judge

-- how many questions of the judge a frame takes: for an atom one for each different simple matcher of the atom's id in
-- all live configurations, and none for another frame
abbrev pub asked_in : {J : Type 0} → Frame → Hub J → ℕ
asked_in (Log frame) hub = asked_by_all frame hub.lives.slots.entries
asked_in _ hub = 0

-- the count of the judge's questions rises by those that a frame takes
abbrev pub AsksJudge : {J : Type 0} → (J → ℕ) → Frame → Hub J → Hub J → Type 0
AsksJudge ticks frame old new = HaveRisen (asked_in frame old) (ticks (judge_of old)) (ticks (judge_of new))

-- what is live and doesn't hear a frame is as it was, and a command is heard by none
abbrev pub UnheardStay : {J : Type 0} → Frame → Hub J → Hub J → Type 0
UnheardStay (Log frame) old new =
    (name : LiveId) (live : LiveInstance) → slot_at name old.lives.slots.entries ≡ Some live
    → hears (linked_of live.carried.instance) frame ≡ false → slot_at name new.lives.slots.entries ≡ Some live
UnheardStay _ old new = Unit {0}

module _ (says : SimpleMatcher → Atom → Bool) where
  -- A live configuration of a client with these own frames, where this was the last frame of the log: it may have slept
  -- through some of them, its last step is at the clock, and it keeps the bytes of its install.
  pub record LiveStandsFor (moment : Moment) (uid : ℤ) (frames : List Frame) (it : LiveInstance) (config : LiveConfig)
      : Type 0 where
    pub instance : StandsAsleep moment it.carried.instance (history_of says uid frames config)
    pub time : last_step_time (history_of says uid frames config) ≡ clock_of frames
    pub bytes : it.carried.config ≡ install_bytes frames config

  -- what is held at an id of a client with these own frames is its live configuration of that id
  abbrev pub SlotStandsFor : Moment → ℤ → List Frame → Option LiveInstance → Option LiveConfig → Type 0
  SlotStandsFor moment uid frames None None = Unit {0}
  SlotStandsFor moment uid frames (Some it) (Some config) = LiveStandsFor moment uid frames it config
  SlotStandsFor moment uid frames (Some it) None = ⊥
  SlotStandsFor moment uid frames None (Some config) = ⊥

  -- What is live is held under its client and id, and counted.
  pub record LivesStandFor (moment : Moment) (lives : Lives) (frames : List Frame) : Type 0 where
    pub slots : (uid id : ℤ) → SlotStandsFor moment uid (own uid frames)
        (slot_at (live_id uid id) lives.slots.entries) (config_at id (live (own uid frames)))
    pub counts : (uid : ℤ) → count_at uid lives.counts.entries ≡ length (live (own uid frames))

  -- The hub is what these frames make of a new one, for every client. No field keeps the frames.
  pub record HubStandsFor {J : Type 0} (hub : Hub J) (frames : List Frame) : Type 0 where
    pub clock : hub.clock.time ≡ clock_of frames
    pub books : BooksStandFor hub.books (log_frames frames)
    pub table : IsHeldTable (contents_of hub.lives.table) hub.lives.slots.entries
    pub lives : LivesStandFor (moment_of_clock hub.clock) hub.lives frames

  -- The hub stands for these frames with one more, and this is the answer to it.
  pub record Serves {J : Type 0} (hub : Hub J) (frames : List Frame) (frame : Frame)
      (reply : Option Reply) : Type 0 where
    pub stands : HubStandsFor hub (frames ++ frame ∷ [])
    pub answer : reply ≡ reply_to says frames frame

  -- a hub stands for these frames with one more, and this is the answer to it
  abbrev pub IsAnswered : {J : Type 0} → Hub J → List Frame → Frame → Option Reply → Type 0
  IsAnswered hub frames frame reply = HubStandsFor hub (frames ++ frame ∷ []) × (reply ≡ reply_to says frames frame)

  -- a claim of all frames that a hub stands for, after which this one may come next
  abbrev pub InTime : {J : Type 0} → Hub J → Frame → (List Frame → Type 0) → Type 0
  InTime hub frame Claim =
      (frames : List Frame) → HubStandsFor hub frames → IsInTime (clock_of frames) frame → Claim frames

  -- whatever frames the old hub stands for, the new one stands for them and this one, if it may come next and is taken
  abbrev pub TakesInTime : {J E : Type 0} → Hub J → Frame → Hub J → Result Unit E → Type 0
  TakesInTime old frame new result =
      InTime old frame (λ frames. OnOk result (HubStandsFor new (frames ++ frame ∷ [])))

  -- whatever frames the old hub stands for, the new one serves this command about a name after them, if its body comes
  abbrev pub ServesCommand : {J E : Type 0} → Hub J → LiveId → Frame → Hub J → Result ReplyBody E → Type 0
  ServesCommand old name frame new result =
      (frames : List Frame) → HubStandsFor old frames
      → IfOk result (λ body. Serves new frames frame (reply_of name.uid name.id body))
