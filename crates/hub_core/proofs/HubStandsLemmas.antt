-- What is held stands for what is live, from frame to frame.
use Rattle.std.proofs.Common.{◌≡◌, ℕ, ◌+◌, ◌-◌, ◌<◌, ◌≤◌, ℤ, Bool, true, false, cond, List, [], ◌∷◌, ◌++◌, length, take, Option, Some, None, is_some, Result, Ok, Err, refl, sym, ap, subst, ◌∙◌, arith}
use Rattle.std.specs.Prelude.{◌&&◌, nat_le}
use Rattle.std.specs.Bool.{MatchBool}
use Rattle.std.specs.Option.{MatchOption, option_map}
use Rattle.std.specs.Ordering.{int_eq}
use Rattle.std.specs.Cmp.{signed_Decides}
use Rattle.std.proofs.lemmas.List.{append-nil}
use Rattle.std.proofs.lemmas.Option.{same_Some}
use Rattle.std.proofs.lemmas.List.Sums.{length-filter}
use Rattle.atom_record.specs.declared.atom.Atom.{Atom}
use Rattle.atom_record.specs.declared.log.LogFrame.{LogFrame}
use Rattle.config_types.specs.declared.config.Config.{Config}
use Rattle.config_types.specs.declared.matcher.SimpleMatcher.{SimpleMatcher}
use Rattle.config_decode.specs.Config.{config_of}
use Rattle.session_frames.specs.declared.frame.Frame.{Frame}
use Rattle.session_frames.specs.declared.frame.Frame.TheVariants.{Log, Install, Remove, Report}
use Rattle.session_frames.specs.declared.reply.Refusal.{Refusal}
use Rattle.session_frames.specs.declared.reply.Reply.{Reply}
use Rattle.session_frames.specs.declared.reply.ReplyBody.{ReplyBody}
use Rattle.session_frames.specs.declared.reply.ReplyBody.TheVariants as answers
use Rattle.session_frames.specs.Frames.{log_time, clock_after}
use Rattle.report_writer.specs.ReportSpelling.{report_message}
use Rattle.bucket_meaning.specs.Ends.{Moment}
use Rattle.bucket_meaning.specs.Limits.{time_limit}
use Rattle.metric_lane.specs.LaneJoining.{with_frame}
use Rattle.config_links.specs.declared.linked.Linked.{Linked}
use Rattle.config_links.specs.Verdict.{linked_form}
use Rattle.metric_meaning.specs.Histories.{Step, History, with_step, with_steps, log_of_history, moment_of}
use Rattle.metric_meaning.specs.ShownFrames.{shown_as}
use Rattle.metric_meaning.specs.Reports.{report_of}
use Rattle.state_slicer.specs.StateBooks.{StateBookStandsFor}
use Rattle.hub_meaning.specs.SessionLog.{is_own, own, log_frame_in, log_frames, clock_of}
use Rattle.hub_meaning.specs.Acceptance.{LiveConfig, most_configs, has_other_id, config_read, linked_read, accepted_as, accepted_read, acceptance}
use Rattle.hub_meaning.specs.LiveConfigs.{with_config, without_id, config_at, live_with, live_after, live, truths_at, step_at, history_of}
use Rattle.hub_meaning.specs.ClientAnswers.{final_report, install_answer, remove_answer, report_answer, reply_of, reply_to}
use Rattle.hub_meaning.proofs.SessionLogLaws.{own-push_own, own-push_other, log_frames-push, log_frames-own, clock_of-push, clock_of-own}
use Rattle.hub_meaning.proofs.LiveConfigLaws.{live-push, live_placed, live_distinct, install_bytes-push, install_bytes-new, history_of-push, history_of-new, history_of-log, one_if, config_at-with_config, config_at-without_id, length-with_config, length-without_id, placed_at}
use Rattle.client_engine.specs.NextSteps.{reported_step}
use Rattle.known_conditions.specs.Known.{logged_step}
use Rattle.client_engine.specs.Handed.{BookOfStates}
use Rattle.client_engine.specs.InstanceStands.{InstanceStandsFor, last_step_time, linked_of, new_history}
use Rattle.hub_core.specs.declared.books.Books.{Books}
use Rattle.hub_core.specs.BookStands.{BooksStandFor}
use Rattle.hub_core.specs.declared.live_instance.LiveInstance.{LiveInstance}
use Rattle.hub_core.specs.declared.lives.Lives.{Lives}
use Rattle.hub_core.proofs.TableLemmas.{table_held}
use Rattle.hub_core.specs.declared.hub.Hub.{Hub}
use Rattle.hub_core.specs.FrameTruths.{LogsBy}
use Rattle.hub_core.specs.LoggedFrames.{shown_frame}
use Rattle.hub_core.specs.SlotLogs.{FoundLogs, AllLog}
use Rattle.hub_core.specs.declared.log_clock.LogClock.{LogClock}
use Rattle.hub_core.specs.Sleeping.{moment_of_clock, hears, StandsAsleep}
use Rattle.hub_core.proofs.SleepingLemmas.{last_from-logged, last_from-reported, pushed_at, asleep_fresh, asleep_reported, asleep_logged, asleep_on, shown_heard, unheard_untouching}
use Rattle.hub_core.specs.NamedLives.{KeepConfigs}
use Rattle.hub_core.specs.Slots.{live_id, request_of, slot_at, count_at, ShowsAt}
use Rattle.hub_core.specs.Commands.{change, held_at, others, Changes, Stays, StaysWith, IsEnded, Replaces, body_of_report, accepted_of, PutsIn, InstallsLinked, Installs, TakesOut, Removes, ReportsLive}
use Rattle.hub_core.specs.HubStands.{LiveStandsFor, SlotStandsFor, LivesStandFor, HubStandsFor, Serves}
use Rattle.hub_core.proofs.InstallReadingLemmas.{linked_is}

-- a number is itself
int_eq_refl : (n : ℤ) → int_eq n n ≡ true
int_eq_refl n = (signed_Decides n n).1 refl

-- no step leaves a history as it was
no_step : (history : History) → with_steps history [] ≡ history
no_step history = ap (λ (steps : List Step). record history { steps = steps }) (append-nil history.steps)

-- the bytes of what is found, if something is
abbrev bytes_in : Option LiveInstance → Option (List ℕ)
bytes_in slot = option_map (λ (live : LiveInstance). live.carried.config) slot

module _ (says : SimpleMatcher → Atom → Bool) where
  -- a frame of the log comes to what is found under a name, if it hears it
  slot_logged : (before : Moment) (uid : ℤ) (frames : List Frame) (shown : LogFrame) (book : BookOfStates)
      (frame : LogFrame) (old new : Option LiveInstance) (config : Option LiveConfig)
      → ((c : LiveConfig) → config ≡ Some c → c.place < length frames) → before.at ≡ clock_of frames
      → clock_of frames ≤ log_time frame → log_time frame < time_limit
      → shown ≡ shown_as (log_frames frames) frame → StateBookStandsFor book (log_frames frames ++ frame ∷ [])
      → FoundLogs says (shown_frame before shown book) old new → bytes_in new ≡ bytes_in old
      → SlotStandsFor says before uid frames old config
      → SlotStandsFor says (with_frame before (moment_of frame (log_time frame))) uid (frames ++ Log frame ∷ []) new
      config
  slot_logged before uid frames shown book frame None None None placed now in_time fits shown_is book_is logs bytes h =
      tt
  slot_logged before uid frames shown book frame (Some old) (Some new) (Some config) placed now in_time fits shown_is
      book_is logs bytes h =
      let history = history_of says uid frames config in
      let linked = history.installed.linked in
      let log : log_of_history history ≡ log_frames frames = history_of-log says uid frames config in
      let truths = truths_at says linked frame in
      let next = with_frame before (moment_of frame (log_time frame)) in
      let more = with_step history (logged_step frame truths) in
      let pushed : history_of says uid (frames ++ Log frame ∷ []) config ≡ more =
      history_of-push says uid frames (Log frame) config (placed config refl) in
      let later : before.at ≤ log_time frame = omega (arith, in_time, now) in
      let same : hears (linked_of old.carried.instance) shown ≡ hears linked frame =
      ap (λ (l : Linked). hears l shown) h.instance.stands.linked ∙ ap (hears linked) shown_is
      ∙ shown_heard linked (log_frames frames) frame in
      let asleep : StandsAsleep next new.carried.instance more =
      by_case history (logged_step frame truths) (hears linked frame)
      (subst (λ heard. MatchBool heard (LogsBy says before shown book old.carried.instance new.carried.instance)
      (new ≡ old)) same logs)
      (λ wakes. asleep_logged before old.carried.instance history h.instance frame truths later new.carried.instance
      (wakes history frame h.instance (omega (arith, in_time, h.time))
      (shown_is ∙ ap (λ l. shown_as l frame) (sym log))
      (subst (λ l. StateBookStandsFor book (l ++ frame ∷ [])) (sym log) book_is)))
      (λ off. asleep_on before old.carried.instance history h.instance frame truths later
      (unheard_untouching says linked frame off) fits) in
      record {
        instance = subst (StandsAsleep next new.carried.instance) (sym pushed) asleep;
        time = ap last_step_time pushed ∙ last_from-logged history.installed.base history.steps frame truths
            ∙ sym (clock_of-push frames (Log frame));
        bytes = same_Some new.carried.config old.carried.config bytes ∙ h.bytes
            ∙ sym (install_bytes-push frames (Log frame) config (placed config refl));
      } where
        by_case : (history : History) (step : Step) {next : Moment} (heard : Bool)
            → MatchBool heard (LogsBy says before shown book old.carried.instance new.carried.instance) (new ≡ old)
            → (LogsBy says before shown book old.carried.instance new.carried.instance
            → StandsAsleep next new.carried.instance (with_step history step))
            → (heard ≡ false → StandsAsleep next old.carried.instance (with_step history step))
            → StandsAsleep next new.carried.instance (with_step history step)
        by_case history step {next} true took awake asleep = awake took
        by_case history step {next} false stays awake asleep =
            subst (λ (it : LiveInstance). StandsAsleep next it.carried.instance (with_step history step)) (sym stays)
            (asleep refl)
  slot_logged before uid frames shown book frame (Some old) new None placed now in_time fits shown_is book_is logs bytes
      h = absurd h
  slot_logged before uid frames shown book frame None new
      (Some config) placed now in_time fits shown_is book_is logs bytes h =
      absurd h
  slot_logged before uid frames shown book frame None (Some new) None placed now in_time fits shown_is book_is logs
      bytes h = absurd logs
  slot_logged before uid frames shown book frame (Some old) None (Some config) placed now in_time fits shown_is book_is
      logs bytes h = absurd logs

  -- a frame that is no step to a configuration leaves what is held for it
  slot_idle : (moment : Moment) (uid : ℤ) (frames : List Frame) (frame : Frame) (slot : Option LiveInstance)
      (config : Option LiveConfig) → clock_after (clock_of frames) frame ≡ clock_of frames
      → ((c : LiveConfig) → config ≡ Some c → (c.place < length frames) × (step_at says c.id
      (linked_form c.config uid) frames frame ≡ [])) → SlotStandsFor says moment uid frames slot config
      → SlotStandsFor says moment uid (frames ++ frame ∷ []) slot config
  slot_idle moment uid frames frame None None still idle h = tt
  slot_idle moment uid frames frame (Some it) (Some config) still idle h =
      let facts = idle config refl in
      let same : history_of says uid (frames ++ frame ∷ []) config ≡ history_of says uid frames config =
      history_of-push says uid frames frame config facts.0
      ∙ ap (with_steps (history_of says uid frames config)) facts.1
      ∙ no_step (history_of says uid frames config) in
      record {
        instance = subst (StandsAsleep moment it.carried.instance) (sym same) h.instance;
        time = ap last_step_time same ∙ h.time ∙ sym (clock_of-push frames frame ∙ still);
        bytes = h.bytes ∙ sym (install_bytes-push frames frame config facts.0);
      }
  slot_idle moment uid frames frame (Some it) None still idle h = absurd h
  slot_idle moment uid frames frame None (Some config) still idle h = absurd h

  -- what is found is there where a configuration is live
  both_there : (moment : Moment) (uid : ℤ) (frames : List Frame) (slot : Option LiveInstance)
      (config : Option LiveConfig) → SlotStandsFor says moment uid frames slot config → is_some slot ≡ is_some config
  both_there moment uid frames None None h = refl
  both_there moment uid frames (Some it) (Some config) h = refl
  both_there moment uid frames (Some it) None h = absurd h
  both_there moment uid frames None (Some config) h = absurd h

  -- a frame of the log comes to all that hear it
  pub stands_log : (before : Moment) (old new : Lives) (frames : List Frame) (shown : LogFrame) (book : BookOfStates)
      (frame : LogFrame) → before.at ≡ clock_of frames → clock_of frames ≤ log_time frame → log_time frame < time_limit
      → shown ≡ shown_as (log_frames frames) frame → StateBookStandsFor book (log_frames frames ++ frame ∷ [])
      → AllLog says (shown_frame before shown book) old.slots.entries new.slots.entries → new.counts ≡ old.counts
      → KeepConfigs old.slots.entries new.slots.entries → LivesStandFor says before old frames
      → LivesStandFor says (with_frame before (moment_of frame (log_time frame))) new (frames ++ Log frame ∷ [])
  stands_log before old new frames shown book frame now in_time fits shown_is book_is all counts configs h =
      let next = with_frame before (moment_of frame (log_time frame)) in
      record {
        slots = λ uid id.
            let mine = own uid frames in
            let slot = slot_at (live_id uid id) new.slots.entries in
            let clock : clock_of frames ≡ clock_of mine = sym (clock_of-own uid frames) in
            let log : log_frames frames ≡ log_frames mine = sym (log_frames-own uid frames) in
            subst (λ l. SlotStandsFor says next uid l slot (config_at id (live l)))
            (sym (own-push_own uid frames (Log frame) refl))
            (subst (λ l. SlotStandsFor says next uid (mine ++ Log frame ∷ []) slot (config_at id l))
            (sym (live-push mine (Log frame)))
            (slot_logged before uid mine shown book frame (slot_at (live_id uid id) old.slots.entries) slot
            (config_at id (live mine)) (λ c is. (placed_at (length mine) id (live mine) (live_placed mine) c is).0)
            (now ∙ clock) (omega (arith, in_time, clock)) fits (shown_is ∙ ap (λ l. shown_as l frame) log)
            (subst (λ l. StateBookStandsFor book (l ++ frame ∷ [])) log book_is) (all (live_id uid id))
            (configs (live_id uid id)) (h.slots uid id)));
        counts = λ uid.
            let mine = own uid frames in
            ap (λ (c : _). count_at uid c.entries) counts ∙ h.counts uid
            ∙ ap length (sym (live-push mine (Log frame)))
            ∙ ap (λ l. length (live l)) (sym (own-push_own uid frames (Log frame) refl));
      }

  -- A command of a client comes after these frames.
  module _ (moment : Moment) (frames : List Frame) (frame : Frame) (uid id : ℤ) (mine : (n : ℤ)
      → is_own n frame ≡ int_eq uid n) (still : (clock : ℕ)
      → clock_after clock frame ≡ clock) (old new : Lives) (h : LivesStandFor says moment old frames) where
    -- the client's own frames, and what is live by them
    abbrev before : List Frame
    before = own uid frames

    -- what is live after the command
    abbrev after : List LiveConfig
    after = live_after before frame (live before)

    -- the command is the last of the client's own frames
    own_now : own uid (frames ++ frame ∷ []) ≡ before ++ frame ∷ []
    own_now = own-push_own uid frames frame (mine uid ∙ int_eq_refl uid)

    -- what is held at an id, if the client's own frames say so
    at_own : (other : ℤ) → SlotStandsFor says moment uid (before ++ frame ∷ []) (slot_at
        (live_id uid other) new.slots.entries) (config_at other after)
        → SlotStandsFor says moment uid (own uid (frames ++ frame ∷ [])) (slot_at (live_id uid other) new.slots.entries)
        (config_at other (live (own uid (frames ++ frame ∷ []))))
    at_own other s =
        subst (λ l. SlotStandsFor says moment uid l (slot_at (live_id uid other) new.slots.entries) (config_at other
        (live l))) (sym own_now)
        (subst (λ l. SlotStandsFor says moment uid (before ++ frame ∷ [])
        (slot_at (live_id uid other) new.slots.entries)
        (config_at other l)) (sym (live-push before frame)) s)

    -- the client's own slots, and those of all others, which stay
    all_slots : ((other : ℤ) → SlotStandsFor says moment uid (before ++ frame ∷ []) (slot_at
        (live_id uid other) new.slots.entries) (config_at other after))
        → ((n other : ℤ) → int_eq uid n ≡ false → slot_at (live_id n other) new.slots.entries
        ≡ slot_at (live_id n other) old.slots.entries)
        → (n other : ℤ) → SlotStandsFor says moment n (own n (frames ++ frame ∷ [])) (slot_at
        (live_id n other) new.slots.entries) (config_at other (live (own n (frames ++ frame ∷ []))))
    all_slots own_slots others_stay n other = by_case (int_eq uid n) refl where
      by_case : (same : Bool) → int_eq uid n ≡ same
          → SlotStandsFor says moment n (own n (frames ++ frame ∷ [])) (slot_at
          (live_id n other) new.slots.entries) (config_at other (live (own n (frames ++ frame ∷ []))))
      by_case true e =
          subst (λ m. SlotStandsFor says moment m (own m (frames ++ frame ∷ [])) (slot_at
          (live_id m other) new.slots.entries) (config_at other (live (own m (frames ++ frame ∷ [])))))
          ((signed_Decides uid n).0 e)
          (at_own other (own_slots other))
      by_case false e =
          subst (λ l. SlotStandsFor says moment n l (slot_at (live_id n other) new.slots.entries) (config_at other
          (live l))) (sym (own-push_other n frames frame (mine n ∙ e)))
          (subst (λ s. SlotStandsFor says moment n (own n frames) s (config_at other (live (own n frames)))) (sym
          (others_stay n other e)) (h.slots n other))

    -- the client's own count, and those of all others, which stay
    all_counts : count_at uid new.counts.entries ≡ length after → ((n : ℤ) → int_eq uid n ≡ false
        → count_at n new.counts.entries ≡ count_at n old.counts.entries)
        → (n : ℤ) → count_at n new.counts.entries ≡ length (live (own n (frames ++ frame ∷ [])))
    all_counts own_count others_stay n = by_case (int_eq uid n) refl where
      by_case : (same : Bool) → int_eq uid n ≡ same → count_at n new.counts.entries
          ≡ length (live (own n (frames ++ frame ∷ [])))
      by_case true e =
          subst (λ m. count_at m new.counts.entries ≡ length (live (own m (frames ++ frame ∷ []))))
          ((signed_Decides uid n).0 e)
          (own_count ∙ ap length (sym (live-push before frame)) ∙ ap (λ l. length (live l)) (sym own_now))
      by_case false e = others_stay n e ∙ h.counts n ∙ ap (λ l. length (live l)) (sym (own-push_other n frames frame
          (mine n ∙ e)))

    -- a frame that is no step to what is live at an id
    abbrev IsIdle : ℤ → Type 0
    IsIdle other = (config : LiveConfig) → config_at other (live before) ≡ Some config
        → step_at says config.id (linked_form config.config uid) before frame ≡ []

    -- what was held at an id stays so, where the frame is no step to it
    kept : (other : ℤ) → IsIdle other → slot_at (live_id uid other) new.slots.entries
        ≡ slot_at (live_id uid other) old.slots.entries → config_at other after ≡ config_at other (live before)
        → SlotStandsFor says moment uid (before ++ frame ∷ []) (slot_at (live_id uid other) new.slots.entries)
        (config_at other after)
    kept other idle same_slot same_config =
        subst (λ s. SlotStandsFor says moment uid (before ++ frame ∷ []) s (config_at other after)) (sym same_slot)
        (subst (SlotStandsFor says moment uid (before ++ frame ∷ []) (slot_at (live_id uid other) old.slots.entries))
        (sym same_config)
        (slot_idle moment uid before frame (slot_at (live_id uid other) old.slots.entries)
        (config_at other (live before))
        (still (clock_of before))
        (λ c is. ((placed_at (length before) other (live before) (live_placed before) c is).0, idle c is))
        (h.slots uid other)))

    -- nothing changed, on both sides
    stays : Stays old new → ((other : ℤ) → IsIdle other) → ((other : ℤ)
        → config_at other after ≡ config_at other (live before)) → length after ≡ length (live before)
        → LivesStandFor says moment new (frames ++ frame ∷ [])
    stays same idle same_configs same_len = record {
      slots = all_slots (λ other. kept other (idle other) (ap (slot_at (live_id uid other)) same.slots)
          (same_configs other)) (λ n other e. ap (slot_at (live_id n other)) same.slots);
      counts = all_counts (ap (λ (c : _). count_at uid c.entries) same.counts ∙ h.counts uid
          ∙ sym same_len) (λ n e. ap (λ (c : _). count_at n c.entries) same.counts);
    }

    -- one slot changed, on both sides
    changed : (slot : Option LiveInstance) (count : ℕ) → Changes (live_id uid id) slot count old new
        → SlotStandsFor says moment uid (before ++ frame ∷ []) slot (config_at id after)
        → ((other : ℤ) → int_eq id other ≡ false → IsIdle other) → ((other : ℤ) → int_eq id other ≡ false
        → config_at other after ≡ config_at other (live before)) → count ≡ length after
        → LivesStandFor says moment new (frames ++ frame ∷ [])
    changed slot count c here idle same_configs is = record {
      slots = all_slots own_slots (λ n other e. c.slots (live_id n other)
          ∙ ap (λ b. cond (b && int_eq id other) slot (slot_at (live_id n other) old.slots.entries)) e);
      counts = all_counts (c.counts uid ∙ ap (λ b. cond b count (count_at uid old.counts.entries))
          (int_eq_refl uid) ∙ is) (λ n e. c.counts n ∙ ap (λ b. cond b count (count_at n old.counts.entries)) e);
    } where
      at_id : (other : ℤ) (same : Bool) → int_eq id other ≡ same
          → slot_at (live_id uid other) new.slots.entries
          ≡ cond same slot (slot_at (live_id uid other) old.slots.entries)
      at_id other same e = c.slots (live_id uid other)
          ∙ ap (λ b. cond (b && int_eq id other) slot (slot_at (live_id uid other) old.slots.entries))
          (int_eq_refl uid) ∙ ap (λ b. cond b slot (slot_at (live_id uid other) old.slots.entries)) e

      own_slot : (other : ℤ) (same : Bool) → int_eq id other ≡ same
          → SlotStandsFor says moment uid (before ++ frame ∷ []) (slot_at (live_id uid other) new.slots.entries)
          (config_at other after)
      own_slot other true e =
          subst (λ s. SlotStandsFor says moment uid (before ++ frame ∷ []) s (config_at other after)) (sym
          (at_id other true e))
          (subst (λ o. SlotStandsFor says moment uid (before ++ frame ∷ []) slot (config_at o after))
          ((signed_Decides id other).0 e) here)
      own_slot other false e = kept other (idle other e) (at_id other false e) (same_configs other e)

      own_slots : (other : ℤ) → SlotStandsFor says moment uid (before ++ frame ∷ []) (slot_at
          (live_id uid other) new.slots.entries) (config_at other after)
      own_slots other = own_slot other (int_eq id other) refl

  -- A client's command of an id, what it finds and what it leaves.
  module _ (moment : Moment) (frames : List Frame) (uid id : ℤ) (old new : Lives) (body : ReplyBody)
      (h : LivesStandFor says moment old frames) where
    -- what is live by the client's own frames
    abbrev lives_before : List LiveConfig
    lives_before = live (own uid frames)

    -- one is held where one is live
    there : is_some (held_at (live_id uid id) old) ≡ is_some (config_at id lives_before)
    there = both_there moment uid (own uid frames) (held_at (live_id uid id) old) (config_at id lives_before)
        (h.slots uid id)

    -- the others that the table counts are the others that are live
    others_are : others (live_id uid id) old ≡ length (without_id id lives_before)
    others_are = by_case (is_some (config_at id lives_before)) refl where
      by_case : (is : Bool) → is_some (config_at id lives_before) ≡ is
          → others (live_id uid id) old ≡ length (without_id id lives_before)
      by_case true e =
          let found_it : others (live_id uid id) old ≡ count_at uid old.counts.entries - 1 = ap
          (λ b. count_at uid old.counts.entries - cond b 1 0) (there ∙ e) in
          let one : length (without_id id lives_before) + 1 ≡ length lives_before =
          ap (λ b. length (without_id id lives_before) + one_if b) (sym e)
          ∙ length-without_id id lives_before (live_distinct (own uid frames)) in
          omega (arith, found_it, one, h.counts uid)
      by_case false e =
          let found_none : others (live_id uid id) old ≡ count_at uid old.counts.entries - 0 = ap
          (λ b. count_at uid old.counts.entries - cond b 1 0) (there ∙ e) in
          let none : length (without_id id lives_before) + 0 ≡ length lives_before =
          ap (λ b. length (without_id id lives_before) + one_if b) (sym e)
          ∙ length-without_id id lives_before (live_distinct (own uid frames)) in
          omega (arith, found_none, none, h.counts uid)

    -- the last report of what is held is that of what is live, by the frames before the command
    ended_is : (book : BookOfStates) → moment.at ≡ clock_of frames → StateBookStandsFor book (log_frames frames)
        → (it : LiveInstance) (config : LiveConfig) → LiveStandsFor says moment uid (own uid frames) it config
        → (told : List ℕ → ReplyBody) → IsEnded moment book (live_id uid id) it told body
        → body ≡ told (final_report says uid id (own uid frames) config)
    ended_is book now book_is it config s told r =
        let mine = own uid frames in
        let time : moment.at ≡ clock_of mine = now ∙ sym (clock_of-own uid frames) in
        let log : log_of_history (history_of says uid mine config) ≡ log_frames frames =
        history_of-log says uid mine config ∙ log_frames-own uid frames in
        r.answer ∙ ap (λ t. told (report_message t))
        ((r.steps (history_of says uid mine config) s.instance (s.time ∙ sym time)).1
        (subst (StateBookStandsFor book) (sym log) book_is))
        ∙ ap (λ t. told (report_message (report_of (history_of says uid mine config) uid id true t))) time

    remove_case : (book : BookOfStates) → moment.at ≡ clock_of frames
        → StateBookStandsFor book (log_frames frames)
        → (slot : Option LiveInstance) (config : Option LiveConfig)
        → config_at id lives_before ≡ config → SlotStandsFor says moment uid (own uid frames) slot config
        → MatchOption slot (StaysWith answers.NoConfig (change old new body))
        (λ live. TakesOut moment book (live_id uid id) live (change old new body))
        → LivesStandFor says moment new (frames ++ Remove uid id ∷ [])
        × (body ≡ remove_answer says uid id (own uid frames) config)
    remove_case book now book_is None None none s r = (
      stays moment frames (Remove uid id) uid id (λ n. refl) (λ clock. refl) old new h r.stays (λ other config is. refl)
          (λ other. config_at-without_id id other lives_before ∙ absent other (int_eq id other) refl)
          (let len : length (without_id id lives_before) + 0 ≡ length lives_before =
          ap (λ c. length (without_id id lives_before) + one_if (is_some c)) (sym none)
          ∙ length-without_id id lives_before (live_distinct (own uid frames)) in omega (arith, len)),
      r.answer,
    ) where
      absent : (other : ℤ) (same : Bool) → int_eq id other ≡ same
          → cond same None (config_at other lives_before) ≡ config_at other lives_before
      absent other true e = sym (ap (λ n. config_at n lives_before) (sym ((signed_Decides id other).0 e)) ∙ none)
      absent other false e = refl
    remove_case book now book_is (Some it) (Some config) is s r = (
      changed moment frames (Remove uid id) uid id (λ n. refl) (λ clock. refl) old new h None
          (others (live_id uid id) old) r.changes
          (subst (SlotStandsFor says moment uid (own uid frames ++ Remove uid id ∷ []) None) (sym
          (config_at-without_id id id lives_before
          ∙ ap (λ b. cond b None (config_at id lives_before)) (int_eq_refl id))) tt)
          (λ other e config is. refl)
          (λ other e. config_at-without_id id other lives_before
          ∙ ap (λ b. cond b None (config_at other lives_before)) e)
          others_are,
      ended_is book now book_is it config s answers.Removed r.answer,
    )
    remove_case book now book_is None (Some config) is s r = absurd s
    remove_case book now book_is (Some it) None is s r = absurd s

    -- what a remove makes of what is held, and its answer
    pub serves_remove : (book : BookOfStates) → moment.at ≡ clock_of frames
        → StateBookStandsFor book (log_frames frames) → Removes moment book (live_id uid id) (change old new body)
        → LivesStandFor says moment new (frames ++ Remove uid id ∷ [])
        × (body ≡ remove_answer says uid id (own uid frames) (config_at id lives_before))
    serves_remove book now book_is r =
        remove_case book now book_is (held_at (live_id uid id) old) (config_at id lives_before) refl
        (h.slots uid id) r

    same_count : (n : ℤ) (same : Bool) → int_eq uid n ≡ same
        → count_at n old.counts.entries ≡ cond same (count_at uid old.counts.entries) (count_at n old.counts.entries)
    same_count n true e = ap (λ m. count_at m old.counts.entries) (sym ((signed_Decides uid n).0 e))
    same_count n false e = refl

    -- by what is held and what is live
    report_case : (book : BookOfStates) (include_current : Bool) → moment.at ≡ clock_of frames
        → StateBookStandsFor book (log_frames frames)
        → (slot : Option LiveInstance) (config : Option LiveConfig) → config_at id lives_before ≡ config
        → SlotStandsFor says moment uid (own uid frames) slot config
        → new.counts ≡ old.counts
        → (report : Option (List ℕ)) → body ≡ body_of_report report
        → MatchOption slot ((new.slots.entries ≡ old.slots.entries) × (report
        ≡ None)) (λ it. ShowsAt moment (request_of uid id include_current moment.at) book it
        old.slots.entries new.slots.entries report)
        → LivesStandFor says moment new (frames ++ Report uid id include_current ∷ []) × (body
        ≡ report_answer says uid id (own uid frames) include_current config)
    report_case book include_current now book_is None None none s counts report told r = (
      stays moment frames (Report uid id include_current) uid id (λ n. refl) (λ clock. refl) old new h
          (record { slots = r.0; counts = counts }) (λ other config is. idle other config is
          (int_eq id config.id) refl) (λ other. refl) refl,
      told ∙ ap body_of_report r.1,
    ) where
      idle : (other : ℤ) (config : LiveConfig) → config_at other lives_before ≡ Some config → (same : Bool)
          → int_eq id config.id ≡ same → step_at says config.id (linked_form config.config uid) (own uid frames)
          (Report uid id include_current) ≡ []
      idle other config is true e =
          let own_id : config.id ≡ other = (placed_at (length (own uid frames)) other lives_before (live_placed
          (own uid frames)) config is).1 in
          let two : None ≡ Some config = sym none ∙ ap (λ n. config_at n lives_before)
          ((signed_Decides id config.id).0 e ∙ own_id) ∙ is in
          absurd (cc)
      idle other config is false e = ap (λ b. cond b (reported_step (request_of uid id include_current
          (clock_of (own uid frames))) ∷ []) []) e
    report_case book include_current now book_is (Some it) (Some config) is s counts report told r =
        let mine = own uid frames in
        let at = placed_at (length mine) id lives_before (live_placed mine) config is in
        let time : moment.at ≡ clock_of mine = now ∙ sym (clock_of-own uid frames) in
        let same : int_eq id config.id ≡ true = ap (λ n. int_eq id n) at.1 ∙ int_eq_refl id in
        let step : step_at says config.id (linked_form config.config uid) mine (Report uid id include_current)
        ≡ reported_step (request_of uid id include_current moment.at) ∷ [] =
        ap (λ b. cond b (reported_step (request_of uid id include_current (clock_of mine)) ∷ []) []) same
        ∙ ap (λ t. reported_step (request_of uid id include_current t) ∷ []) (sym time) in
        let history : history_of says uid (mine ++ Report uid id include_current ∷ []) config
        ≡ with_steps (history_of says uid mine config)
        (reported_step (request_of uid id include_current moment.at) ∷ []) =
        history_of-push says uid mine (Report uid id include_current) config at.0
        ∙ ap (with_steps (history_of says uid mine config)) step in
        let log : log_of_history (history_of says uid mine config) ≡ log_frames frames =
        history_of-log says uid mine config ∙ log_frames-own uid frames in
        let done = r.steps (history_of says uid mine config) s.instance (s.time ∙ sym time) in (
          changed moment frames (Report uid id include_current) uid id (λ n. refl) (λ clock. refl) old new h
              (Some r.next) (count_at uid old.counts.entries) (record {
                slots = r.slots;
                counts = λ n. ap (λ
                    (c : _). count_at n c.entries) counts ∙ same_count n (int_eq uid n) refl;
              })
              (subst (SlotStandsFor says moment uid (mine ++ Report uid id include_current ∷ []) (Some r.next))
              (sym is) (record {
                instance = subst (StandsAsleep moment r.next.carried.instance) (sym history)
                    (asleep_reported moment it.carried.instance (history_of says uid mine config) s.instance
                    r.next.carried.instance (request_of uid id include_current moment.at) done.0);
                time = ap last_step_time history ∙ last_from-reported (clock_of (take config.place mine))
                    (history_of says uid mine config).steps (request_of uid id include_current moment.at) ∙ s.time
                    ∙ sym (clock_of-push mine (Report uid id include_current));
                bytes = r.config ∙ s.bytes
                    ∙ sym (install_bytes-push mine (Report uid id include_current) config at.0);
              }))
              (λ other e other_config other_is.
              let other_id = (placed_at (length mine) other lives_before (live_placed mine) other_config other_is).1 in
              ap (λ b. cond b (reported_step (request_of uid id include_current (clock_of mine)) ∷ []) []) (ap
              (λ n. int_eq id n) other_id ∙ e))
              (λ other e. refl)
              (h.counts uid),
          told ∙ ap body_of_report r.told ∙ ap (λ t. answers.ReportBytes (report_message t))
              (done.1 (subst (StateBookStandsFor book) (sym log) book_is))
              ∙ ap (λ t. answers.ReportBytes (report_message (report_of
              (history_of says uid mine config) uid id include_current t))) time,
        )
    report_case book include_current now book_is None (Some config) is s counts report told r = absurd s
    report_case book include_current now book_is (Some it) None is s counts report told r = absurd s

    -- what a report makes of what is held, and its answer
    pub serves_report : (book : BookOfStates) (include_current : Bool) → moment.at ≡ clock_of frames
        → StateBookStandsFor book (log_frames frames)
        → ReportsLive moment (request_of uid id include_current moment.at) book (change old new body)
        → LivesStandFor says moment new (frames ++ Report uid id include_current ∷ []) × (body
        ≡ report_answer says uid id (own uid frames) include_current (config_at id lives_before))
    serves_report book include_current now book_is r =
        report_case book include_current now book_is (held_at (live_id uid id) old)
        (config_at id lives_before) refl (h.slots uid id) r.counts r.report r.answer r.slots

    module _ (config : List ℕ) (now : moment.at ≡ clock_of frames) (books : Books)
        (books_are : BooksStandFor books (log_frames frames)) where
      -- what the install brings
      abbrev brought : Result Config ReplyBody
      brought = acceptance uid id config lives_before

      -- it is refused with this answer
      refused : (refusal : ReplyBody) → brought ≡ Err refusal → StaysWith refusal (change old new body)
          → LivesStandFor says moment new (frames ++ Install uid id config ∷ []) × (body
          ≡ install_answer says uid id (own uid frames) brought (config_at id lives_before))
      refused refusal is r = (
        stays moment frames (Install uid id config) uid id (λ n. refl) (λ clock. refl) old new h r.stays
            (λ other config is. refl)
            (λ other. ap (λ a. config_at other (live_with (length (own uid frames)) id a lives_before)) is)
            (ap (λ a. length (live_with (length (own uid frames)) id a lives_before)) is),
        r.answer ∙ sym (ap (λ a. install_answer says uid id (own uid frames) a (config_at id lives_before)) is),
      )

      -- it is accepted
      accepted_case : (decoded : Config) (linked : Linked) → linked ≡ linked_form decoded uid
          → brought ≡ Ok decoded
          → PutsIn moment books (accepted_of (live_id uid id) config linked) (change old new body)
          → LivesStandFor says moment new (frames ++ Install uid id config ∷ []) × (body
          ≡ install_answer says uid id (own uid frames) brought (config_at id lives_before))
      accepted_case decoded linked form is r =
          let mine = own uid frames in
          let put : LiveConfig = record { id = id; config = decoded; place = length mine } in
          let after_is : live_after mine (Install uid id config) lives_before
          ≡ with_config put lives_before = ap (λ a. live_with (length mine) id a lives_before) is in
          let time : moment.at ≡ clock_of mine = now ∙ sym (clock_of-own uid frames) in
          let opening = log_frames (mine ++ Install uid id config ∷ []) in
          let opening_is : log_frames frames ≡ opening =
          sym (log_frames-push mine (Install uid id config) ∙ append-nil (log_frames mine)
          ∙ log_frames-own uid frames) in
          let history = history_of-new says uid mine (Install uid id config) put refl in
          let it = r.goes.fresh.carried.instance in
          let fresh : StandsAsleep moment it (history_of says uid (mine ++ Install uid id config ∷ []) put) =
          subst (StandsAsleep moment it) (sym history)
          (subst (λ t. StandsAsleep moment it (new_history t opening (linked_form decoded uid))) time
          (asleep_fresh moment it opening (linked_form decoded uid)
          (subst (λ l. InstanceStandsFor it (new_history moment.at opening l)) form
          (r.goes.is_fresh opening (subst (BooksStandFor books) opening_is books_are))))) in
          let at_id : config_at id (live_after mine (Install uid id config) lives_before) ≡ Some put =
          ap (config_at id) after_is ∙ config_at-with_config put id lives_before
          ∙ ap (λ b. cond b (Some put) (config_at id lives_before)) (int_eq_refl id) in
          let with_len = length-with_config put lives_before in
          let without_len = length-without_id id lives_before (live_distinct mine) in
          let len : others (live_id uid id) old + 1 ≡ length (with_config put lives_before) = omega
          (arith, with_len, without_len, others_are) in (
            changed moment frames (Install uid id config) uid id (λ n. refl) (λ clock. refl) old new h
                (Some r.goes.fresh) (others (live_id uid id) old + 1) r.goes.changes
                (subst (SlotStandsFor says moment uid (mine ++ Install uid id config ∷ []) (Some r.goes.fresh))
                (sym at_id) (record {
                  instance = fresh;
                  time = ap last_step_time history
                      ∙ sym (clock_of-push mine (Install uid id config));
                  bytes = r.goes.config ∙ sym (install_bytes-new mine (Install uid id config) put refl);
                }))
                (λ other e other_config other_is. refl)
                (λ other e. ap (config_at other) after_is ∙ config_at-with_config put other lives_before
                ∙ ap (λ b. cond b (Some put) (config_at other lives_before)) e)
                (len ∙ ap length (sym after_is)),
            replaced_is (held_at (live_id uid id) old) (config_at id lives_before) (h.slots uid id) r.answer
                ∙ sym (ap (λ a. install_answer says uid id (own uid frames) a (config_at id lives_before)) is),
          ) where
            replaced_is : (slot : Option LiveInstance) (found : Option LiveConfig)
                → SlotStandsFor says moment uid (own uid frames) slot found
                → Replaces moment books.states (live_id uid id) slot body
                → body ≡ install_answer says uid id (own uid frames) (Ok decoded) found
            replaced_is None None s answer = answer
            replaced_is (Some it) (Some found) s answer =
                ended_is books.states now books_are.states it found s answers.Replaced answer
            replaced_is None (Some found) s answer = absurd s
            replaced_is (Some it) None s answer = absurd s

      -- it was linked, or refused by a fault of its references or by its form
      linked_case : (decoded : Config) (read : Result Linked Refusal) → linked_read uid decoded ≡ read
          → brought ≡ accepted_as decoded read
          → InstallsLinked moment books (live_id uid id) config read (change old new body)
          → LivesStandFor says moment new (frames ++ Install uid id config ∷ []) × (body
          ≡ install_answer says uid id (own uid frames) brought (config_at id lives_before))
      linked_case decoded (Err refusal) read is r = refused (answers.Refused refusal) is r
      linked_case decoded (Ok linked) read is r = accepted_case decoded linked (linked_is uid decoded linked read) is r

      -- the client is full or not
      full_case : (decoded : Config) (full : Bool) → brought ≡ accepted_read uid full (Ok decoded)
          → MatchBool full (StaysWith (answers.ClientFull most_configs) (change old new body))
          (InstallsLinked moment books (live_id uid id) config (linked_read uid decoded) (change old new body))
          → LivesStandFor says moment new (frames ++ Install uid id config ∷ []) × (body
          ≡ install_answer says uid id (own uid frames) brought (config_at id lives_before))
      full_case decoded true is r = refused (answers.ClientFull most_configs) is r
      full_case decoded false is r = linked_case decoded (linked_read uid decoded) refl is r

      -- it was decoded or not
      read_case : (read : Result Config Refusal) → brought
          ≡ accepted_read uid (nat_le most_configs (others (live_id uid id) old)) read
          → Installs moment books (live_id uid id) config read (change old new body)
          → LivesStandFor says moment new (frames ++ Install uid id config ∷ []) × (body
          ≡ install_answer says uid id (own uid frames) brought (config_at id lives_before))
      read_case (Err refusal) is r = refused (answers.Refused refusal) is r
      read_case (Ok decoded) is r = full_case decoded (nat_le most_configs (others (live_id uid id) old)) is r

      -- what it brings, by what was read and by the others that are held
      brought_is : (read : Result Config Refusal) → read ≡ config_read (config_of config)
          → brought ≡ accepted_read uid (nat_le most_configs (others (live_id uid id) old)) read
      unfolding acceptance
      brought_is read is =
          ap (λ n. accepted_read uid (nat_le most_configs n) (config_read (config_of config))) (sym (length-filter
          (has_other_id id) lives_before) ∙ sym others_are)
          ∙ ap (accepted_read uid (nat_le most_configs (others (live_id uid id) old))) (sym is)

      pub serves_install : (read : Result Config Refusal) → read ≡ config_read (config_of config)
          → Installs moment books (live_id uid id) config read (change old new body)
          → LivesStandFor says moment new (frames ++ Install uid id config ∷ []) × (body
          ≡ install_answer says uid id (own uid frames) brought (config_at id lives_before))
      serves_install read is r = read_case read (brought_is read is) r

  -- the hub serves a frame that is this one
  pub serves_as : {J : Type 0} (new : Hub J) (frames : List Frame) (given frame : Frame) (reply : Option Reply)
      → given ≡ frame → Serves says new frames frame reply → HubStandsFor says new (frames ++ given ∷ []) × (reply
      ≡ reply_to says frames given)
  serves_as new frames given frame reply is s = subst (λ f. HubStandsFor says new (frames ++ f ∷ []) × (reply
      ≡ reply_to says frames f)) (sym is) (s.stands, s.answer)

  module _ {J : Type 0} (hub new : Hub J) (frames : List Frame) (h : HubStandsFor says hub frames) where
    pub hub_log : (frame shown : LogFrame) → clock_of frames ≤ log_time frame → log_time frame < time_limit
        → moment_of_clock new.clock ≡ with_frame (moment_of_clock hub.clock) (moment_of frame (log_time frame))
        → shown ≡ shown_as (log_frames frames) frame → BooksStandFor new.books (log_frames frames ++ frame ∷ [])
        → AllLog says (shown_frame (moment_of_clock hub.clock) shown new.books.states) hub.lives.slots.entries
        new.lives.slots.entries → new.lives.counts ≡ hub.lives.counts
        → KeepConfigs hub.lives.slots.entries new.lives.slots.entries
        → HubStandsFor says new (frames ++ Log frame ∷ [])
    hub_log frame shown in_time fits clock shown_is books all counts configs =
        let next = moment_of frame (log_time frame) in
        let later : hub.clock.time ≤ log_time frame = omega (arith, in_time, h.clock) in
        record {
          clock = ap (λ (moment : Moment). moment.at) clock ∙ pushed_at (moment_of_clock hub.clock) next later
              ∙ sym (clock_of-push frames (Log frame));
          books = subst (BooksStandFor new.books) (sym (log_frames-push frames (Log frame))) books;
          table = table_held new.lives;
          lives = subst (λ moment. LivesStandFor says moment new.lives (frames ++ Log frame ∷ [])) (sym clock)
              (stands_log (moment_of_clock hub.clock) hub.lives new.lives frames shown new.books.states frame h.clock
              in_time fits shown_is books.states all counts configs h.lives);
        }

    -- a frame of the log has no answer
    pub served_log : (frame : LogFrame) → HubStandsFor says new (frames ++ Log frame ∷ [])
        → Serves says new frames (Log frame) None
    unfolding reply_to
    served_log frame stands = record { stands = stands; answer = refl }

    module _ (uid id : ℤ) (body : ReplyBody) (same_clock : new.clock ≡ hub.clock)
        (same_books : new.books ≡ hub.books) where
      -- a command leaves the books
      books_stay : (frame : Frame) → log_frame_in frame ≡ []
          → BooksStandFor new.books (log_frames (frames ++ frame ∷ []))
      books_stay frame none =
          subst (BooksStandFor new.books)
          (sym (log_frames-push frames frame ∙ ap (λ l. log_frames frames ++ l) none ∙ append-nil (log_frames frames)))
          (subst (λ books. BooksStandFor books (log_frames frames)) (sym same_books) h.books)

      -- the last frame is what it was, and so is its time
      same_time : new.clock.time ≡ hub.clock.time
      same_time = ap (λ (clock : LogClock). clock.time) same_clock

      -- what is live stands for the same last frame
      lives_stay : (frame : Frame) → LivesStandFor says (moment_of_clock hub.clock) new.lives (frames ++ frame ∷ [])
          → LivesStandFor says (moment_of_clock new.clock) new.lives (frames ++ frame ∷ [])
      lives_stay frame stands =
          subst (λ (clock : LogClock). LivesStandFor says (moment_of_clock clock) new.lives (frames ++ frame ∷ []))
          (sym same_clock) stands

      pub hub_remove : Removes (moment_of_clock hub.clock) hub.books.states (live_id uid id)
          (change hub.lives new.lives body)
          → Serves says new frames (Remove uid id) (reply_of uid id body)
      unfolding reply_to
      hub_remove r =
          let done = serves_remove (moment_of_clock hub.clock) frames uid id hub.lives new.lives body h.lives
          hub.books.states h.clock h.books.states r in
          record {
            stands = record {
              clock = same_time ∙ h.clock
                  ∙ sym (clock_of-push frames (Remove uid id));
              books = books_stay (Remove uid id) refl;
              table = table_held new.lives;
              lives = lives_stay (Remove uid id) done.0;
            };
            answer = ap (reply_of uid id) done.1;
          }

      pub hub_report : (include_current : Bool)
          → ReportsLive (moment_of_clock hub.clock) (request_of uid id include_current hub.clock.time) hub.books.states
          (change hub.lives new.lives body)
          → Serves says new frames (Report uid id include_current) (reply_of uid id body)
      unfolding reply_to
      hub_report include_current r =
          let done = serves_report (moment_of_clock hub.clock) frames uid id hub.lives new.lives body h.lives
          hub.books.states include_current h.clock h.books.states r in
          record {
            stands = record {
              clock = same_time ∙ h.clock
                  ∙ sym (clock_of-push frames (Report uid id include_current));
              books = books_stay (Report uid id include_current) refl;
              table = table_held new.lives;
              lives = lives_stay (Report uid id include_current) done.0;
            };
            answer = ap
                (reply_of uid id) done.1;
          }

      pub hub_install : (config : List ℕ) (read : Result Config Refusal) → read ≡ config_read (config_of config)
          → Installs (moment_of_clock hub.clock) hub.books (live_id uid id) config read
          (change hub.lives new.lives body)
          → Serves says new frames (Install uid id config) (reply_of uid id body)
      unfolding reply_to
      hub_install config read is r =
          let done = serves_install (moment_of_clock hub.clock) frames uid id hub.lives new.lives body h.lives config
          h.clock hub.books
          h.books read is r in
          record {
            stands = record {
              clock = same_time ∙ h.clock
                  ∙ sym (clock_of-push frames (Install uid id config));
              books = books_stay (Install uid id config) refl;
              table = table_held new.lives;
              lives = lives_stay (Install uid id config) done.0;
            };
            answer = ap
                (reply_of uid id) done.1;
          }
