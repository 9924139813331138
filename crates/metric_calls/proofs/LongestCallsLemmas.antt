-- What a metric of longest durations shows is what its calls mean, where times don't fall: lemmas on
-- `specs/DurationCalls.antt`, for proofs of instances.
use Rattle.std.proofs.Common.{◌≡◌, ◌⊎◌, ℕ, ◌+◌, ◌-◌, ◌≤◌, Bool, true, false, not, ◌||◌, if◌then◌else◌, cond, nat_lt, List, [], ◌∷◌, ◌++◌, map, filter, length, replicate, Option, Some, None, refl, sym, ap, subst, ◌∙◌, arith, ⊎_elim, append_assoc, append-nil}
use Rattle.std.specs.Prelude.{is_some}
use Rattle.std.specs.List.{flat_map}
use Rattle.std.specs.Map.{keys_of}
use Rattle.std.proofs.lemmas.Bool.{cases_Bool, false≢true}
use Rattle.sd_base.specs.Outputs.{outputs}
use Rattle.sd_base.proofs.OutputsLemmas.{outputs-push}
use Rattle.atom_record.specs.declared.value.MetricKey.{MetricKey}
use Rattle.bucket_meaning.specs.Guard.{is_among}
use Rattle.bucket_meaning.specs.Marks.{Mark, Came, Lost}
use Rattle.bucket_clock.specs.Clock.{boundaries, last_time, boundaries_at, Saw}
use Rattle.config_types.specs.declared.parameters.PredSpec.{PredSpec}
use Rattle.config_links.specs.declared.linked.LMetric.{LMetric}
use Rattle.predicate_state.specs.PredicateStates.{PredicateState}
use Rattle.predicate_state.specs.PredicateTable.{LeafKey, same_leaves}
use Rattle.metric_producer.specs.Calls.{Got, Learned, Crossed, CutAt, Took}
use Rattle.metric_producer.specs.LaneCalls.{coming, told_by, crossing_of, cutting}
use Rattle.metric_kinds.specs.Durations.{time_since_off}
use Rattle.metric_kinds.proofs.DurationsLemmas.{since_off-off, since_off-on}
use Rattle.duration_metric.specs.declared.change.InnerEvent.{InnerEvent}
use Rattle.duration_metric.specs.declared.change.InnerChange.{InnerChange}
use Rattle.duration_metric.specs.declared.change.InnerDelta.{InnerDelta}
use Rattle.duration_metric.specs.declared.inner.Known.{Known}
use Rattle.duration_metric.specs.InnerKeys.{DurationCall, inner_state, last_known}
use Rattle.duration_metric.specs.SparseCalls.{is_surely_true, is_told_timed, arrival_for, is_on, running_time, sparse_comes, sparse_collecting}
use Rattle.duration_metric.proofs.KnownLemmas.{ends_with}
use Rattle.duration_metric.proofs.SparseKnownLemmas.{time-idle, time-off, time-on}
use Rattle.metric_meaning.specs.Histories.{What, Logged, Reported, Step, Installation, moment_of}
use Rattle.metric_meaning.specs.DurationSteps.{keys_on, measured, inner_after, inner_drops, out_key, is_timed, key_moment, time_on, gone_off, longest_news}
use Rattle.metric_meaning.proofs.DurationStepsLemmas.{no_longest}
use Rattle.metric_calls.specs.Askings.{frame_step, steps_seen, asked_at, own_demands, marks_after, calls_crossed, calls_by_steps, shown_by_calls, AsksWell}
use Rattle.metric_meaning.specs.Ways.{shown_by_steps}
use Rattle.metric_calls.specs.DurationCalls.{told_as, delta_with, learning, known_after, inner_event_at, inner_changes, longest_asking, IsTimedWell}
use Rattle.metric_calls.proofs.AskingsLemmas.{calls_of_step, calls_are}
use Rattle.metric_calls.proofs.InnerChangesLemmas.{or_cases, among_later, among_first}
use Rattle.metric_calls.proofs.QuietStepsLemmas.{report_quiet}
use Rattle.metric_calls.proofs.InnerToldLemmas.{events_of, one_event, KnowsInner, TellsInner, listed_told, quiet_call, crossing_tells, cutting_tells, acted, learned, untold, quiet_tells, asks_tell, calls_tell, crossed_tell}
use Rattle.metric_calls.proofs.SumCallsLemmas.{inner_well, acted_none}
use Rattle.metric_calls.proofs.TimelyLemmas.{DontGoBack, latest, latest-push, in_time-front, in_time-back, in_time-more, AgreesInTime, calls_mean_in_time}

-- a condition that was told so is true where it is
surely : (holds : Bool) → is_surely_true (told_as holds) ≡ holds
surely true = refl
surely false = refl

-- no time passes at one moment
no_more : (told : Bool) (time at : ℕ) → time + (if told then at - at else 0) ≡ time
no_more true time at = omega arith
no_more false time at = omega arith

-- a key that is on is listed
on_listed : (entries : List (LeafKey × ℕ)) (key : LeafKey)
    → is_among same_leaves key (map (λ (e : LeafKey × ℕ). e.0) (filter (λ (e : LeafKey × ℕ). nat_lt 0 e.1) entries))
    ≡ true
    → is_among same_leaves key (keys_of entries) ≡ true
on_listed [] key on = on
on_listed (entry ∷ entries) key on = by_case (nat_lt 0 entry.1) (on_listed entries key) on where
  by_case : (is_on_now : Bool)
      → (is_among same_leaves key (map (λ (e : LeafKey × ℕ). e.0)
      (filter (λ (e : LeafKey × ℕ). nat_lt 0 e.1) entries)) ≡ true → is_among same_leaves key (keys_of entries) ≡ true)
      → is_among same_leaves key (map (λ (e : LeafKey × ℕ). e.0)
      (cond is_on_now (entry ∷ filter (λ (e : LeafKey × ℕ). nat_lt 0 e.1) entries)
      (filter (λ (e : LeafKey × ℕ). nat_lt 0 e.1) entries))) ≡ true
      → is_among same_leaves key (keys_of (entry ∷ entries)) ≡ true
  by_case false rest among = among_later entry.0 key (keys_of entries) (rest among)
  by_case true rest among = ⊎_elim
      (λ (here : same_leaves entry.0 key ≡ true). ap (λ b. b || is_among same_leaves key (keys_of entries)) here)
      (λ there. among_later entry.0 key (keys_of entries) (rest there))
      (or_cases (same_leaves entry.0 key)
      (is_among same_leaves key (map (λ (e : LeafKey × ℕ). e.0)
      (filter (λ (e : LeafKey × ℕ). nat_lt 0 e.1) entries))) among)

-- a key that is among some of these is among them
among_all : (test : LeafKey → Bool) (keys : List LeafKey) (key : LeafKey)
    → is_among same_leaves key (filter test keys) ≡ true → is_among same_leaves key keys ≡ true
among_all test [] key among = among
among_all test (first ∷ keys) key among = by_case (test first) (among_all test keys key) among where
  by_case : (passes : Bool)
      → (is_among same_leaves key (filter test keys) ≡ true → is_among same_leaves key keys ≡ true)
      → is_among same_leaves key (cond passes (first ∷ filter test keys) (filter test keys)) ≡ true
      → is_among same_leaves key (first ∷ keys) ≡ true
  by_case false rest some = among_later first key keys (rest some)
  by_case true rest some = ⊎_elim
      (λ (here : same_leaves first key ≡ true). ap (λ b. b || is_among same_leaves key keys) here)
      (λ there. among_later first key keys (rest there))
      (or_cases (same_leaves first key) (is_among same_leaves key (filter test keys)) some)

module _ (installed : Installation) (metric : LMetric) (spec : PredSpec) where
  -- a key is on after these steps
  abbrev on_after : List Step → LeafKey → Bool
  on_after steps key = is_among same_leaves key (keys_on (inner_after installed metric spec steps))

  -- after a step at which a key is off it has no time
  step_off : (before : List Step) (step : Step) (key : LeafKey) (end : ℕ) → on_after (before ++ step ∷ []) key ≡ false
      → time_on installed metric spec (before ++ step ∷ []) end key ≡ 0
  step_off before step key end off =
      ap (λ l. time_since_off l end) (outputs-push (key_moment installed metric spec key) before step)
      ∙ since_off-off (outputs (key_moment installed metric spec key) before) (record {
        at = step.at;
        is_on = on_after (before ++ step ∷ []) key;
        holds = is_timed installed metric (before ++ step ∷ []) key;
      }) end off

  -- after one at which it is on, its time goes on from what it was
  step_on : (before : List Step) (step : Step) (key : LeafKey) (end : ℕ) → on_after (before ++ step ∷ []) key ≡ true
      → time_on installed metric spec (before ++ step ∷ []) end key
      ≡ time_on installed metric spec before step.at key
      + (if is_timed installed metric (before ++ step ∷ []) key then end - step.at else 0)
  step_on before step key end on =
      ap (λ l. time_since_off l end) (outputs-push (key_moment installed metric spec key) before step)
      ∙ since_off-on (outputs (key_moment installed metric spec key) before) (record {
        at = step.at;
        is_on = on_after (before ++ step ∷ []) key;
        holds = is_timed installed metric (before ++ step ∷ []) key;
      }) end on

  -- a key that is off has no time
  off_time : (steps : List Step) (key : LeafKey) (end : ℕ) → on_after steps key ≡ false
      → time_on installed metric spec steps end key ≡ 0
  off_time steps key end off = ⊎_elim
      (λ (none : steps ≡ []). ap (λ ss. time_on installed metric spec ss end key) none)
      (λ some. ap (λ ss. time_on installed metric spec ss end key) some.2
      ∙ step_off some.0 some.1 key end (subst (λ ss. on_after ss key ≡ false) some.2 off))
      (ends_with steps)

  -- the time of one that is on grows while its condition is true
  on_time : (steps : List Step) (key : LeafKey) (from end : ℕ) → latest 0 steps ≤ from → from ≤ end
      → on_after steps key ≡ true
      → time_on installed metric spec steps end key
      ≡ time_on installed metric spec steps from key + (if is_timed installed metric steps key then end - from else 0)
  on_time steps key from end after later on = ⊎_elim
      (λ (none : steps ≡ []). absurd (false≢true (subst (λ ss. on_after ss key ≡ true) none on)))
      (λ some. subst (λ ss. time_on installed metric spec ss end key
      ≡ time_on installed metric spec ss from key + (if is_timed installed metric ss key then end - from else 0))
      (sym some.2) (grown some.0 some.1 (subst (λ ss. latest 0 ss ≤ from) some.2 after)
      (subst (λ ss. on_after ss key ≡ true) some.2 on)))
      (ends_with steps)
    where
      by_case : (holds : Bool) (so_far at : ℕ) → at ≤ from
          → so_far + (if holds then end - at else 0)
          ≡ (so_far + (if holds then from - at else 0)) + (if holds then end - from else 0)
      by_case true so_far at before = omega (arith, before, later)
      by_case false so_far at before = omega arith

      grown : (front : List Step) (last : Step) → latest 0 (front ++ last ∷ []) ≤ from
          → on_after (front ++ last ∷ []) key ≡ true
          → time_on installed metric spec (front ++ last ∷ []) end key
          ≡ time_on installed metric spec (front ++ last ∷ []) from key
          + (if is_timed installed metric (front ++ last ∷ []) key then end - from else 0)
      grown front last before is =
          step_on front last key end is
          ∙ by_case (is_timed installed metric (front ++ last ∷ []) key)
          (time_on installed metric spec front last.at key) last.at
          (subst (λ n. n ≤ from) (latest-push 0 front last) before)
          ∙ ap (λ n. n + (if is_timed installed metric (front ++ last ∷ []) key then end - from else 0))
          (sym (step_on front last key from is))

  -- what was told of a key that is on is whether its condition is true
  timed_told : (calls : List DurationCall) (steps : List Step) (key : LeafKey)
      → KnowsInner installed metric spec calls steps → on_after steps key ≡ true
      → is_told_timed (last_known spec calls key) ≡ is_timed installed metric steps key
  timed_told calls steps key knows on =
      ap is_told_timed (knows.told key ∙ listed_told installed metric spec steps key
      (on_listed (inner_after installed metric spec steps).counts key on))
      ∙ surely (is_timed installed metric steps key)

  -- a key is on by calls as it is by the steps
  on_is : (calls : List DurationCall) (steps : List Step) (key : LeafKey) (truth : Bool)
      → inner_state spec calls ≡ inner_after installed metric spec steps → on_after steps key ≡ truth
      → is_on spec calls key ≡ truth
  on_is calls steps key truth is on =
      ap (λ (s : PredicateState LeafKey). is_among same_leaves key (keys_on s)) is ∙ on

  -- The calls tell what is so after these steps, and each inner key has by them its time, from the last step on.
  pub record TimesInner (calls : List DurationCall) (steps : List Step) : Type 0 where
    pub tells : TellsInner installed metric spec calls steps
    pub times : (key : LeafKey) (end : ℕ) → latest 0 steps ≤ end
        → running_time spec calls end key ≡ time_on installed metric spec steps end key

  -- a call that neither acts nor tells leaves all times
  crossing_times : (calls : List DurationCall) (start size : ℕ) (ends : List ℕ) (end : ℕ) (key : LeafKey)
      → running_time spec (calls ++ crossing_of start size ends) end key ≡ running_time spec calls end key
  crossing_times calls start size [] end key = ap (λ cs. running_time spec cs end key) (append-nil calls)
  crossing_times calls start size (first ∷ others) end key =
      time-idle spec calls
      (Crossed (record { start = start; first_end = first; full_buckets = length others; size = size })) key end refl

  cut_times : (calls : List DurationCall) (at : ℕ) (sized : Bool) (end : ℕ) (key : LeafKey)
      → running_time spec (calls ++ (if sized then CutAt at ∷ [] else [])) end key ≡ running_time spec calls end key
  cut_times calls at true end key = time-idle spec calls (CutAt at) key end refl
  cut_times calls at false end key = ap (λ cs. running_time spec cs end key) (append-nil calls)

  cutting_times : (calls : List DurationCall) (size : ℕ) (include_current : Bool) (at end : ℕ) (key : LeafKey)
      → running_time spec (calls ++ cutting size include_current at) end key ≡ running_time spec calls end key
  cutting_times calls size true at end key = cut_times calls at (nat_lt 0 size) end key
  cutting_times calls size false at end key = ap (λ cs. running_time spec cs end key) (append-nil calls)

  module _ (before : List Step) (step : Step) (calls : List DurationCall) (has : TimesInner calls before)
      (in_time : latest 0 before ≤ step.at) where
    abbrev after : List Step
    after = before ++ step ∷ []

    abbrev changes : List InnerChange
    changes = inner_changes installed metric spec before step

    -- where nothing was told, each time goes on as it did
    still_times : TellsInner installed metric spec calls after → (key : LeafKey) (end : ℕ) → step.at ≤ end
        → running_time spec calls end key ≡ time_on installed metric spec after end key
    still_times tells key end later =
        let same : inner_after installed metric spec before ≡ inner_after installed metric spec after =
        sym has.tells.knows.state ∙ tells.knows.state in
        let alike : on_after before key ≡ on_after after key =
        ap (λ (s : PredicateState LeafKey). is_among same_leaves key (keys_on s)) same in
        has.times key end (omega (arith, in_time, later))
        ∙ ⊎_elim
        (λ (on : on_after after key ≡ true).
        on_time before key step.at end in_time later (alike ∙ on)
        ∙ ap (λ b. time_on installed metric spec before step.at key + (if b then end - step.at else 0))
        (sym (timed_told calls before key has.tells.knows (alike ∙ on))
        ∙ timed_told calls after key tells.knows on)
        ∙ sym (step_on before step key end on))
        (λ (off : on_after after key ≡ false).
        off_time before key end (alike ∙ off) ∙ sym (step_off before step key end off))
        (cases_Bool (on_after after key))

    -- after a condition is told, each time goes on from what it was up to it
    told_times : (acted_calls : List DurationCall) (delta : InnerDelta)
        → TellsInner installed metric spec (acted_calls ++ Learned step.at delta ∷ []) after
        → ((key : LeafKey) → on_after after key ≡ true
        → running_time spec acted_calls step.at key ≡ time_on installed metric spec before step.at key)
        → (key : LeafKey) (end : ℕ)
        → running_time spec (acted_calls ++ Learned step.at delta ∷ []) end key
        ≡ time_on installed metric spec after end key
    told_times acted_calls delta tells so_far key end =
        let call : DurationCall = Learned step.at delta in
        ⊎_elim
        (λ (on : on_after after key ≡ true).
        time-on spec acted_calls call key step.at end refl
        (on_is (acted_calls ++ call ∷ []) after key true tells.knows.state on)
        ∙ ap (λ n. n + (if is_told_timed (last_known spec (acted_calls ++ call ∷ []) key) then end - step.at else 0))
        (so_far key on)
        ∙ ap (λ b. time_on installed metric spec before step.at key + (if b then end - step.at else 0))
        (timed_told (acted_calls ++ call ∷ []) after key tells.knows on)
        ∙ sym (step_on before step key end on))
        (λ (off : on_after after key ≡ false).
        time-off spec acted_calls call key step.at end refl
        (on_is (acted_calls ++ call ∷ []) after key false tells.knows.state off)
        ∙ sym (step_off before step key end off))
        (cases_Bool (on_after after key))

    abbrev asked : Option InnerEvent → List InnerChange → List DurationCall
    asked event told = coming step.at event ++ learning step.at (delta_with (is_some event) told)

    -- one more step: what is asked at it
    pub asks_times : (key : LeafKey) (end : ℕ) → step.at ≤ end
        → running_time spec (calls ++ asked (inner_event_at installed metric step) changes) end key
        ≡ time_on installed metric spec after end key
    asks_times key end later = by_event (inner_event_at installed metric step) refl where
      by_changes : (told : List InnerChange) → changes ≡ told → inner_event_at installed metric step ≡ None
          → running_time spec (calls ++ learning step.at (delta_with false told)) end key
          ≡ time_on installed metric spec after end key
      by_changes [] none is =
          ap (λ cs. running_time spec cs end key) (append-nil calls)
          ∙ still_times (untold installed metric spec before step calls none has.tells
          (acted_none installed metric spec before step calls step.at has.tells refl is)) key end later
      by_changes (first ∷ others) some is =
          told_times calls (record { changes = first ∷ others })
          (subst (λ cs. TellsInner installed metric spec
          (calls ++ Learned step.at (record { changes = cs }) ∷ []) after)
          some (learned installed metric spec before step calls step.at
          (acted_none installed metric spec before step calls step.at has.tells refl is)))
          (λ k on. has.times k step.at in_time) key end

      by_event : (event : Option InnerEvent) → inner_event_at installed metric step ≡ event
          → running_time spec (calls ++ asked event changes) end key ≡ time_on installed metric spec after end key
      by_event None is = by_changes changes refl is
      by_event (Some event) is =
          let knows = acted installed metric spec before step calls step.at (Some event) is has.tells in
          let got : List DurationCall = calls ++ Got step.at event ∷ [] in
          ap (λ cs. running_time spec cs end key)
          (sym (append_assoc calls (Got step.at event ∷ []) (Learned step.at (record { changes = changes }) ∷ [])))
          ∙ told_times got (record { changes = changes })
          (learned installed metric spec before step got step.at knows)
          (λ k on. time-on spec calls (Got step.at event) k step.at step.at refl
          (on_is got after k true knows.state on)
          ∙ no_more (is_told_timed (last_known spec got k)) (running_time spec calls step.at k) step.at
          ∙ has.times k step.at in_time) key end

  -- the calls of one more step
  step_times : (calls : List DurationCall) (before : List Step) (at : ℕ) (what : What) (truths : List Bool)
      → let step : Step = record { at = at; what = what; truths = truths } in
      TimesInner calls before → latest 0 before ≤ at
      → TimesInner (calls ++ calls_of_step (longest_asking installed metric spec) sparse_collecting before step)
      (before ++ step ∷ [])
  step_times calls before at (Logged frame) truths has in_time =
      let asking = longest_asking installed metric spec in
      let step : Step = record { at = at; what = Logged frame; truths = truths } in
      let base = (own_demands asking sparse_collecting).base in
      let size = (own_demands asking sparse_collecting).size in
      let told = told_by (steps_seen asking before) in
      let start = last_time base (boundaries base size told) in
      let ends = boundaries_at base size told (Saw (moment_of frame at)) in
      let crossed : List DurationCall = calls ++ crossing_of start size ends in
      let now : TimesInner crossed before = record {
        tells = crossing_tells installed metric spec calls before start size ends has.tells;
        times = λ key end later. crossing_times calls start size ends end key ∙ has.times key end later;
      } in
      subst (λ cs. TimesInner cs (before ++ step ∷ []))
      (append_assoc calls (crossing_of start size ends) (asked_at asking before frame at truths)) (record {
        tells = asks_tell installed metric spec before step crossed at now.tells;
        times = λ key end later. asks_times before step crossed now in_time key end
            (subst (λ n. n ≤ end) (latest-push 0 before step) later);
      })
  step_times calls before at (Reported include_current) truths has in_time =
      let size = (own_demands (longest_asking installed metric spec) sparse_collecting).size in
      let step : Step = record { at = at; what = Reported include_current; truths = truths } in
      let cut : List DurationCall = calls ++ cutting size include_current at in
      let took : List DurationCall = cut ++ Took ∷ [] in
      let now : TimesInner took before = record {
        tells = quiet_call installed metric spec cut before Took refl (λ key. refl) refl
            (cutting_tells installed metric spec calls before size include_current at has.tells);
        times = λ key end later. time-idle spec cut Took key end refl
            ∙ cutting_times calls size include_current at end key ∙ has.times key end later;
      } in
      let tells = quiet_tells installed metric spec before step took
      (report_quiet at include_current truths) now.tells in
      subst (λ cs. TimesInner cs (before ++ step ∷ []))
      (append_assoc calls (cutting size include_current at) (Took ∷ [])) (record {
        tells = tells;
        times = λ key end later. still_times before step took now in_time tells key end
            (subst (λ n. n ≤ end) (latest-push 0 before step) later);
      })

  -- the calls of all steps, where others came before
  steps_time : (before steps : List Step) → DontGoBack 0 (before ++ steps)
      → TimesInner (outputs (calls_of_step (longest_asking installed metric spec) sparse_collecting) before) before
      → TimesInner (outputs (calls_of_step (longest_asking installed metric spec) sparse_collecting) (before ++ steps))
      (before ++ steps)
  steps_time before [] in_time has =
      subst (λ ss. TimesInner (outputs (calls_of_step (longest_asking installed metric spec) sparse_collecting) ss) ss)
      (sym (append-nil before)) has
  steps_time before (step ∷ steps) in_time has =
      let each = calls_of_step (longest_asking installed metric spec) sparse_collecting in
      subst (λ ss. TimesInner (outputs each ss) ss) (append_assoc before (step ∷ []) steps)
      (steps_time (before ++ step ∷ []) steps
      (subst (DontGoBack 0) (sym (append_assoc before (step ∷ []) steps)) in_time)
      (subst (λ cs. TimesInner cs (before ++ step ∷ [])) (sym (outputs-push each before step))
      (step_times (outputs each before) before step.at step.what step.truths has
      (in_time-back 0 before step (in_time-more 0 before steps step in_time)))))

  -- The calls of steps whose times don't fall give each inner key its time.
  pub calls_time : (steps : List Step) → DontGoBack 0 steps
      → TimesInner (calls_by_steps (longest_asking installed metric spec) sparse_collecting steps) steps
  calls_time steps in_time =
      subst (λ cs. TimesInner cs steps)
      (sym (calls_are (longest_asking installed metric spec) sparse_collecting steps))
      (steps_time [] steps in_time (record {
        tells = calls_tell installed metric spec [];
        times = λ key end later. refl;
      }))

  -- the times of keys that went off
  gone_marks : (calls : List DurationCall) (before : List Step) (at : ℕ) (keys : List LeafKey)
      → ((key : LeafKey) → is_among same_leaves key keys ≡ true
      → last_known spec calls key ≡ Some (known_after installed metric before key))
      → ((key : LeafKey) → running_time spec calls at key ≡ time_on installed metric spec before at key)
      → flat_map (λ key. arrival_for (last_known spec calls key) (running_time spec calls at key)) keys
      ≡ map (λ key. Came (out_key installed metric before key, time_on installed metric spec before at key)) keys
  gone_marks calls before at [] told times = refl
  gone_marks calls before at (key ∷ keys) told times =
      let each : LeafKey → List (Mark (MetricKey × ℕ)) = λ k.
      arrival_for (last_known spec calls k) (running_time spec calls at k) in
      ap (λ (o : Option Known). arrival_for o (running_time spec calls at key) ++ flat_map each keys)
      (told key (among_first key keys))
      ∙ ap (λ n. Came (out_key installed metric before key, n) ∷ flat_map each keys) (times key)
      ∙ ap (λ l. Came (out_key installed metric before key, time_on installed metric spec before at key) ∷ l)
      (gone_marks calls before at keys (λ k among. told k (among_later key k keys among)) times)

  -- the marks of what is asked are those of the step
  longest_marks : (before : List Step) (step : Step) (calls : List DurationCall)
      → TellsInner installed metric spec calls before
      → ((key : LeafKey) → running_time spec calls step.at key ≡ time_on installed metric spec before step.at key)
      → marks_after (longest_asking installed metric spec) sparse_collecting calls
      (coming step.at (inner_event_at installed metric step)
      ++ learning step.at (delta_with (is_some (inner_event_at installed metric step))
      (inner_changes installed metric spec before step)))
      ≡ (longest_news installed metric spec).comes before step
  longest_marks before step calls tells times = by_event (inner_event_at installed metric step) refl where
    none : inner_event_at installed metric step ≡ None → [] ≡ (longest_news installed metric spec).comes before step
    none is = sym (no_longest installed metric spec before step
        (one_event (measured installed metric) step ∙ ap events_of is))

    by_changes : (told : List InnerChange) → inner_event_at installed metric step ≡ None
        → marks_after (longest_asking installed metric spec) sparse_collecting calls
        (learning step.at (delta_with false told))
        ≡ (longest_news installed metric spec).comes before step
    by_changes [] is = none is
    by_changes (first ∷ others) is = none is

    by_event : (event : Option InnerEvent) → inner_event_at installed metric step ≡ event
        → marks_after (longest_asking installed metric spec) sparse_collecting calls
        (coming step.at event ++ learning step.at (delta_with (is_some event)
        (inner_changes installed metric spec before step)))
        ≡ (longest_news installed metric spec).comes before step
    by_event None is = by_changes (inner_changes installed metric spec before step) is
    by_event (Some event) is =
        let knows = acted installed metric spec before step calls step.at (Some event) is tells in
        let arrives : LeafKey → List (Mark (MetricKey × ℕ)) = λ k.
        arrival_for (last_known spec calls k) (running_time spec calls step.at k) in
        append-nil (sparse_comes spec calls step.at event)
        ∙ ap (λ (s : PredicateState LeafKey). replicate (s.dropped - (inner_state spec calls).dropped) Lost
        ++ flat_map arrives (filter (λ key. not (is_among same_leaves key (keys_on s)))
        (keys_on (inner_state spec calls)))) knows.state
        ∙ ap (λ (s : PredicateState LeafKey).
        replicate ((inner_after installed metric spec (before ++ step ∷ [])).dropped - s.dropped) Lost
        ++ flat_map arrives (filter (λ key. not (on_after (before ++ step ∷ []) key)) (keys_on s))) tells.knows.state
        ∙ ap (λ l. inner_drops installed metric spec before step ++ l)
        (gone_marks calls before step.at (gone_off installed metric spec before step)
        (λ key among. tells.knows.told key ∙ listed_told installed metric spec before key
        (on_listed (inner_after installed metric spec before).counts key
        (among_all (λ k. not (on_after (before ++ step ∷ []) k)) (keys_on (inner_after installed metric spec before))
        key among))) times)

  module _ (timed : IsTimedWell installed metric spec) where
    -- what a metric of longest durations asks may come
    pub longest_ask_well : AsksWell (longest_asking installed metric spec) sparse_collecting
    longest_ask_well = record {
      opens = (tt, tt);
      at_frame = λ before frame at truths.
          inner_well installed metric spec timed before (frame_step frame at truths)
          (calls_crossed (longest_asking installed metric spec) sparse_collecting before frame at) at
          (crossed_tell installed metric spec before frame at);
    }

    -- calls and steps agree for longest durations, where times don't fall
    pub longest_agree : AgreesInTime (longest_asking installed metric spec) sparse_collecting
    longest_agree = record {
      made = record { base = refl; size = refl; bound = timed.bound; kind = refl };
      opens = refl;
      begins = refl;
      at_frame = λ before frame at truths in_time.
          let asking = longest_asking installed metric spec in
          let step = frame_step frame at truths in
          let base = (own_demands asking sparse_collecting).base in
          let size = (own_demands asking sparse_collecting).size in
          let told = told_by (steps_seen asking before) in
          let has = calls_time before (in_time-front 0 before (step ∷ []) in_time) in
          longest_marks before step (calls_crossed asking sparse_collecting before frame at)
          (crossed_tell installed metric spec before frame at)
          (λ key. crossing_times (calls_by_steps asking sparse_collecting before)
          (last_time base (boundaries base size told)) size (boundaries_at base size told (Saw (moment_of frame at))) at
          key ∙ has.times key at (in_time-back 0 before step in_time));
      at_boundary = λ before. record { closing = λ at. refl; closing_again = λ at. refl; opening = λ at. refl };
    }

    -- what a report shows of a longest duration by its calls is what it shows by its steps
    pub longest_means : (steps : List Step) (include_current : Bool) (now : ℕ) → DontGoBack 0 steps
        → shown_by_calls (longest_asking installed metric spec) sparse_collecting steps include_current now
        ≡ shown_by_steps (longest_asking installed metric spec).way steps include_current now
    longest_means = calls_mean_in_time (longest_asking installed metric spec) sparse_collecting longest_agree
