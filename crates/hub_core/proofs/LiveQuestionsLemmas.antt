-- How many questions a frame costs all that is live.
use Rattle.std.proofs.Common.{◌≡◌, ℕ, ◌+◌, ◌≤◌, ℤ, Bool, List, [], ◌∷◌, ◌++◌, Option, Some, None, refl, sym, ap, subst, ◌∙◌, arith}
use Rattle.std.specs.List.{sum_by}
use Rattle.std.specs.Map.{keys_of}
use Rattle.std.specs.Option.{option_map_or}
use Rattle.atom_record.specs.declared.atom.Atom.{Atom}
use Rattle.atom_record.specs.declared.log.LogFrame.{LogFrame}
use Rattle.atom_record.specs.declared.log.PullOutcome.{PullOutcome}
use Rattle.atom_record.specs.declared.log.LogFrame.TheVariants.{Tick, AtomAt, Pull}
use Rattle.config_types.specs.declared.matcher.SimpleMatcher.{SimpleMatcher}
use Rattle.session_frames.specs.declared.frame.Frame.{Frame}
use Rattle.session_frames.specs.declared.frame.Frame.TheVariants.{Log}
use Rattle.session_frames.specs.Frames.{log_time}
use Rattle.state_slicer.specs.StateBooks.{StateBookStandsFor}
use Rattle.metric_meaning.specs.Histories.{log_of_history}
use Rattle.metric_meaning.specs.ShownFrames.{shown_as}
use Rattle.metric_meaning.proofs.PartedLemmas.{sum_by-zero}
use Rattle.hub_meaning.specs.SessionLog.{own, log_frames, clock_of}
use Rattle.hub_meaning.specs.Acceptance.{LiveConfig}
use Rattle.hub_meaning.specs.LiveConfigs.{config_at, live, history_of, truths_at}
use Rattle.config_links.specs.declared.linked.Linked.{Linked}
use Rattle.client_engine.specs.Handed.{BookOfStates}
use Rattle.client_engine.specs.InstanceStands.{IsView, linked_of}
use Rattle.client_engine.specs.Questions.{questions_at}
use Rattle.client_engine.specs.declared.live_id.LiveId.{LiveId}
use Rattle.hub_core.specs.declared.hub.Hub.{Hub}
use Rattle.hub_core.specs.declared.lives.Lives.{Lives}
use Rattle.hub_core.specs.declared.live_instance.LiveInstance.{LiveInstance}
use Rattle.hub_core.specs.FrameTruths.{truths_by}
use Rattle.hub_core.specs.HubStands.{SlotStandsFor, LivesStandFor, HubStandsFor}
use Rattle.hub_core.specs.LiveQuestions.{config_questions, name_questions, questions_in, AllAskBy}
use Rattle.hub_core.specs.LoggedFrames.{shown_frame}
use Rattle.hub_core.specs.Slots.{slot_at}
use Rattle.hub_core.proofs.EvaluationLemmas.{truths_are, is_view, truths_shown}
use Rattle.hub_meaning.proofs.LiveConfigLaws.{history_of-log}
use Rattle.hub_meaning.proofs.SessionLogLaws.{clock_of-own, log_frames-own}
use Rattle.bucket_meaning.specs.Ends.{Moment}
use Rattle.hub_core.specs.Alone.{last_moment}
use Rattle.hub_core.specs.Sleeping.{AsksAwake}

module _ (says : SimpleMatcher → Atom → Bool) where
  -- a live configuration asks no more than its questions
  config_few : (moment : Moment) (uid : ℤ) (frames : List Frame) (shown : LogFrame) (book : BookOfStates)
      (frame : LogFrame) (it : LiveInstance) (config : Option LiveConfig) → clock_of frames ≤ log_time frame
      → shown ≡ shown_as (log_frames frames) frame → StateBookStandsFor book (log_frames frames ++ frame ∷ [])
      → SlotStandsFor says moment uid frames (Some it) config → (from to : ℕ)
      → AsksAwake moment it.carried.instance shown (truths_by says it.carried.instance.matchers shown) book from to
      → to ≤ from + option_map_or (config_questions says uid frames frame) config 0
  config_few moment uid frames shown book frame it None in_time shown_is book_is h from to asks = absurd h
  config_few moment uid frames shown book frame it (Some config) in_time shown_is book_is h from to asks =
      let history = history_of says uid frames config in
      let linked = history.installed.linked in
      let log : log_of_history history ≡ log_frames frames = history_of-log says uid frames config in
      let same : truths_by says it.carried.instance.matchers shown ≡ truths_at says linked frame =
      truths_are says (linked_of it.carried.instance) shown
      ∙ ap (λ (l : Linked). truths_at says l shown) h.instance.stands.linked ∙ ap (truths_at says linked) shown_is
      ∙ truths_shown says linked (log_frames frames) frame in
      subst (λ truths. to ≤ from + questions_at history frame truths) same
      (asks history frame h.instance (omega (arith, in_time, h.time))
      (subst (IsView linked frame) (sym same) (is_view says linked frame))
      (shown_is ∙ ap (λ l. shown_as l frame) (sym log))
      (subst (λ l. StateBookStandsFor book (l ++ frame ∷ [])) (sym log) book_is))

  -- and so does what is live under a name
  name_few : (moment : Moment) (lives : Lives) (frames : List Frame) (shown : LogFrame) (book : BookOfStates)
      (frame : LogFrame)
      → clock_of frames ≤ log_time frame → shown ≡ shown_as (log_frames frames) frame
      → StateBookStandsFor book (log_frames frames ++ frame ∷ []) → LivesStandFor says moment lives frames
      → (name : LiveId) (it : LiveInstance) → slot_at name lives.slots.entries ≡ Some it → (from to : ℕ)
      → AsksAwake moment it.carried.instance shown (truths_by says it.carried.instance.matchers shown) book from to
      → to ≤ from + name_questions says frames frame name
  name_few moment lives frames shown book frame in_time shown_is book_is h name it found from to asks =
      let uid = name.uid in
      let mine = own uid frames in
      config_few moment uid mine shown book frame it (config_at name.id (live mine))
      (omega (arith, in_time, clock_of-own uid frames))
      (shown_is ∙ ap (λ l. shown_as l frame) (sym (log_frames-own uid frames)))
      (subst (λ l. StateBookStandsFor book (l ++ frame ∷ [])) (sym (log_frames-own uid frames)) book_is)
      (subst (λ slot. SlotStandsFor says moment uid mine slot (config_at name.id (live mine))) found
      (h.slots uid name.id))
      from to asks

  -- a frame that is no atom costs nothing
  ticks_free : (uid : ℤ) (frames : List Frame) (at : ℕ) (config : Option LiveConfig)
      → option_map_or (config_questions says uid frames (Tick at)) config 0 ≡ 0
  ticks_free uid frames at None = refl
  ticks_free uid frames at (Some config) = refl

  pulls_free : (uid : ℤ) (frames : List Frame) (at id : ℕ) (outcome : PullOutcome) (config : Option LiveConfig)
      → option_map_or (config_questions says uid frames (Pull at id outcome)) config 0 ≡ 0
  pulls_free uid frames at id outcome None = refl
  pulls_free uid frames at id outcome (Some config) = refl

  -- a sum of nothing
  free_sum : (names : List LiveId) (before after : ℕ) → after ≤ before + sum_by (λ (name : LiveId). 0) names
      → after ≤ before
  free_sum names before after few = let none = sum_by-zero names in omega (arith, few, none)

  -- all that is live asks no more than its questions
  pub hub_asks : {J : Type 0} (hub : Hub J) (frames : List Frame) (shown : LogFrame) (book : BookOfStates)
      (frame : LogFrame) (before after : ℕ) → clock_of frames ≤ log_time frame
      → shown ≡ shown_as (log_frames frames) frame → StateBookStandsFor book (log_frames frames ++ frame ∷ [])
      → HubStandsFor says hub frames
      → AllAskBy says (shown_frame (last_moment hub) shown book) hub.lives.slots.entries before after
      → after ≤ before + questions_in says hub frames (Log frame)
  hub_asks hub frames shown book (AtomAt at atom) before after in_time shown_is book_is h asks =
      asks (name_questions says frames (AtomAt at atom))
      (name_few (last_moment hub) hub.lives frames shown book (AtomAt at atom) in_time shown_is book_is h.lives)
  hub_asks hub frames shown book (Tick at) before after in_time shown_is book_is h asks =
      let few = free_sum (keys_of hub.lives.slots.entries) before after (asks (λ name. 0)
      (λ name it found from to here.
      let mine = own name.uid frames in
      let none = ticks_free name.uid mine at (config_at name.id (live mine)) in
      let one = name_few (last_moment hub) hub.lives frames shown book (Tick at) in_time shown_is book_is h.lives
      name it found from to
      here in
      omega (arith, one, none))) in
      omega (arith, few)
  hub_asks hub frames shown book (Pull at id outcome) before after in_time shown_is book_is h asks =
      let few = free_sum (keys_of hub.lives.slots.entries) before after (asks (λ name. 0)
      (λ name it found from to here.
      let mine = own name.uid frames in
      let none = pulls_free name.uid mine at id outcome (config_at name.id (live mine)) in
      let one = name_few (last_moment hub) hub.lives frames shown book (Pull at id outcome) in_time shown_is
      book_is h.lives name it
      found from to here in
      omega (arith, one, none))) in
      omega (arith, few)
