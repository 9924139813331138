-- What the calls of a metric of durations tell of inner keys is what is so of them after its steps.
use Rattle.std.proofs.Common.{◌≡◌, ◌⊎◌, ℕ, ◌+◌, ◌-◌, Bool, true, false, not, if◌then◌else◌, cond, nat_lt, List, [], ◌∷◌, ◌++◌, map, filter, length, position, Option, Some, None, refl, sym, ap, subst, ◌∙◌, ⊎_elim, append_assoc, append-nil}
use Rattle.std.specs.Prelude.{is_some}
use Rattle.std.specs.List.{flat_map, last_or}
use Rattle.std.specs.Map.{keys_of}
use Rattle.std.proofs.lemmas.Bool.{cases_Bool}
use Rattle.std.proofs.lemmas.Grind.{flat_map-append}
use Rattle.sd_base.specs.Outputs.{outputs}
use Rattle.sd_base.proofs.OutputsLemmas.{outputs-push}
use Rattle.atom_record.specs.declared.log.LogFrame.{LogFrame}
use Rattle.atom_record.specs.declared.log.LogFrame.TheVariants.{Tick, AtomAt, Pull}
use Rattle.atom_record.specs.declared.value.MetricKey.{MetricKey}
use Rattle.bucket_meaning.specs.Guard.{is_among, firsts}
use Rattle.bucket_clock.specs.Clock.{boundaries, last_time, boundaries_at, Saw}
use Rattle.config_types.specs.declared.parameters.PredSpec.{PredSpec}
use Rattle.config_links.specs.declared.linked.LMetric.{LMetric}
use Rattle.config_links.specs.declared.linked.LPredicate.{LPredicate}
use Rattle.config_links.specs.declared.linked.LPredBody.{LPredBody}
use Rattle.config_links.specs.declared.linked.LPredBody.TheVariants.{Simple, Combo}
use Rattle.predicate_state.specs.declared.event.PredEvent.{PredEvent}
use Rattle.predicate_state.specs.PredicateStates.{KeyEvent, PredicateState, initial_state, state_after, state_from}
use Rattle.predicate_state.specs.PredicateTable.{LeafKey, same_leaves}
use Rattle.predicate_state.proofs.PredicateStateLemmas.{state_from-push}
use Rattle.metric_producer.specs.Calls.{Call, Got, Learned, Crossed, CutAt, Took}
use Rattle.metric_producer.specs.LaneCalls.{coming, told_by, crossing_of, cutting}
use Rattle.metric_kinds.specs.Keys.{is_same_key}
use Rattle.duration_metric.specs.declared.change.InnerEvent.{InnerEvent}
use Rattle.duration_metric.specs.declared.change.InnerChange.{InnerChange}
use Rattle.duration_metric.specs.declared.inner.Known.{Known}
use Rattle.duration_metric.specs.InnerKeys.{DurationCall, key_events, known_at, inner_state, inner_keys, told_to, last_known}
use Rattle.duration_metric.specs.SumCalls.{known_out, counted_out, active_after, active_told, active_since, sum_collecting}
use Rattle.duration_metric.proofs.KnownLemmas.{inner_state-got, inner_state-other, last_known-listed, last_known-absent}
use Rattle.duration_metric.proofs.ActiveLemmas.{since-learned, since-other}
use Rattle.metric_meaning.specs.Histories.{What, Logged, Reported, Step, Installation, moment_of}
use Rattle.metric_meaning.specs.PredicateSteps.{first_event, named_truth, on_key}
use Rattle.metric_meaning.specs.DurationSteps.{measured, inner_events, inner_after, out_key, is_timed, active_keys}
use Rattle.metric_meaning.proofs.DurationStepsLemmas.{inner_stays}
use Rattle.metric_calls.specs.Askings.{steps_seen, asked_at, own_demands, calls_by_steps, calls_crossed}
use Rattle.metric_calls.specs.DurationCalls.{first_event_of, told_as, delta_with, learning, listed_after, known_after, told_after, inner_event_at, inner_changes, sum_asking}
use Rattle.metric_calls.proofs.AskingsLemmas.{calls_of_step, calls_are}
use Rattle.metric_calls.proofs.InnerChangesLemmas.{among_later, among_first, position_is, told_once, nothing_told}
use Rattle.metric_calls.proofs.QuietStepsLemmas.{IsQuiet, report_quiet, quiet_known, quiet_inner}

-- an event as it acts on a table, if there is one
abbrev pub events_of : Option InnerEvent → List (KeyEvent LeafKey)
events_of None = []
events_of (Some event) = record { event = event.event; key = event.key } ∷ []

-- a step does at most one thing to inner keys
pub one_event : (found : Option LPredicate) (step : Step)
    → inner_events found step ≡ events_of (first_event_of (inner_events found step))
one_event None step = refl
one_event (Some predicate) step = of_what step.what predicate.body where
  of_event : (key : LeafKey) (event : Option PredEvent)
      → on_key key event ≡ events_of (first_event_of (on_key key event))
  of_event key None = refl
  of_event key (Some event) = refl

  of_what : (what : What) (body : LPredBody)
      → let s : Step = record step { what = what } in
      inner_events (Some (record predicate { body = body })) s
      ≡ events_of (first_event_of (inner_events (Some (record predicate { body = body })) s))
  of_what (Reported include_current) body = refl
  of_what (Logged (Tick at)) body = refl
  of_what (Logged (Pull at id outcome)) body = refl
  of_what (Logged (AtomAt at atom)) (Combo op children) = refl
  of_what (Logged (AtomAt at atom)) (Simple start stop stop_all dims spec) =
      of_event _ (first_event (named_truth stop_all step.truths) (named_truth stop step.truths)
      (named_truth start step.truths))

-- one key more that is on, or one that is off
one_out : (out : LeafKey → MetricKey) (timed : LeafKey → Bool) (entry : LeafKey × ℕ) (on : List (LeafKey × ℕ))
    (is_on : Bool)
    → (if is_on then (if timed entry.0 then out entry.0 ∷ [] else []) else [])
    ++ map out (filter timed (map (λ (e : LeafKey × ℕ). e.0) on))
    ≡ map out (filter timed (map (λ (e : LeafKey × ℕ). e.0) (cond is_on (entry ∷ on) on)))
one_out out timed entry on false = refl
one_out out timed entry on true = by_case (timed entry.0) (filter timed (map (λ (e : LeafKey × ℕ). e.0) on)) where
  by_case : (holds : Bool) (rest : List LeafKey)
      → (if holds then out entry.0 ∷ [] else []) ++ map out rest ≡ map out (cond holds (entry.0 ∷ rest) rest)
  by_case true rest = refl
  by_case false rest = refl

module _ (installed : Installation) (metric : LMetric) (spec : PredSpec) where
  -- What is known of inner keys by calls is what these steps make of them: their table, and of each that is listed what
  -- is so of it.
  pub record KnowsInner (calls : List DurationCall) (steps : List Step) : Type 0 where
    pub state : inner_state spec calls ≡ inner_after installed metric spec steps
    pub told : (key : LeafKey) → last_known spec calls key ≡ told_after installed metric spec steps key

  -- The same, and the active keys since the last condition are those after the steps.
  pub record TellsInner (calls : List DurationCall) (steps : List Step) : Type 0 where
    pub knows : KnowsInner calls steps
    pub since : active_since spec calls ≡ active_keys installed metric spec steps

  -- A step's event came, if it has one: inner keys are as after the step, and each was told what was told before it.
  pub record KnowsActed (calls : List DurationCall) (before : List Step) (step : Step) : Type 0 where
    pub state : inner_state spec calls ≡ inner_after installed metric spec (before ++ step ∷ [])
    pub told : (key : LeafKey)
        → is_among same_leaves key (listed_after installed metric spec (before ++ step ∷ [])) ≡ true
        → last_known spec calls key ≡ told_after installed metric spec before key
    pub since : active_since spec calls ≡ active_keys installed metric spec before

  -- the output key that an inner key counts for, while its condition is true
  out_timed : (holds : Bool) (out : MetricKey)
      → known_out (Some (record { truth = told_as holds; out = out })) ≡ (if holds then out ∷ [] else [])
  out_timed true out = refl
  out_timed false out = refl

  -- what is told of keys that are on makes the active keys
  outs_are : (steps : List Step) (known : LeafKey → Option Known) (entries : List (LeafKey × ℕ))
      → ((key : LeafKey) → is_among same_leaves key (keys_of entries) ≡ true
      → known key ≡ Some (known_after installed metric steps key))
      → flat_map (counted_out known) entries
      ≡ map (out_key installed metric steps) (filter (is_timed installed metric steps)
      (map (λ (entry : LeafKey × ℕ). entry.0) (filter (λ (entry : LeafKey × ℕ). nat_lt 0 entry.1) entries)))
  outs_are steps known [] all = refl
  outs_are steps known (entry ∷ entries) all =
      ap (λ (o : Option Known). (if nat_lt 0 entry.1 then known_out o else []) ++ flat_map (counted_out known) entries)
      (all entry.0 (among_first entry.0 (keys_of entries)))
      ∙ ap (λ l. (if nat_lt 0 entry.1 then l else []) ++ flat_map (counted_out known) entries)
      (out_timed (is_timed installed metric steps entry.0) (out_key installed metric steps entry.0))
      ∙ ap (λ l. (if nat_lt 0 entry.1 then (if is_timed installed metric steps entry.0
      then out_key installed metric steps entry.0 ∷ [] else []) else []) ++ l)
      (outs_are steps known entries (λ key among. all key (among_later entry.0 key (keys_of entries) among)))
      ∙ one_out (out_key installed metric steps) (is_timed installed metric steps) entry
      (filter (λ (e : LeafKey × ℕ). nat_lt 0 e.1) entries) (nat_lt 0 entry.1)

  -- of a key that is listed what is so of it was told
  pub listed_told : (steps : List Step) (key : LeafKey)
      → is_among same_leaves key (listed_after installed metric spec steps) ≡ true
      → told_after installed metric spec steps key ≡ Some (known_after installed metric steps key)
  listed_told steps key among =
      ap (λ b. if b then Some (known_after installed metric steps key) else None) among

  -- of one that isn't, nothing
  pub unlisted_told : (steps : List Step) (key : LeafKey)
      → is_among same_leaves key (listed_after installed metric spec steps) ≡ false
      → told_after installed metric spec steps key ≡ None
  unlisted_told steps key off = ap (λ b. if b then Some (known_after installed metric steps key) else None) off

  -- the active keys by calls are those after the steps
  pub active_are : (calls : List DurationCall) (steps : List Step) → KnowsInner calls steps
      → active_after spec calls ≡ active_keys installed metric spec steps
  active_are calls steps knows =
      ap (λ (s : PredicateState LeafKey). firsts is_same_key []
      (flat_map (counted_out (last_known spec calls)) s.counts)) knows.state
      ∙ ap (firsts is_same_key [])
      (outs_are steps (last_known spec calls) (inner_after installed metric spec steps).counts
      (λ key among. knows.told key ∙ listed_told steps key among))

  -- a call that neither acts nor tells leaves what is known
  pub quiet_call : (calls : List DurationCall) (steps : List Step) (call : DurationCall) → key_events call ≡ []
      → ((key : LeafKey) → told_to spec key calls call ≡ []) → active_told spec calls call ≡ []
      → TellsInner calls steps → TellsInner (calls ++ call ∷ []) steps
  quiet_call calls steps call none silent still tells =
      let state = inner_state-other spec calls call none in
      record {
        knows = record {
          state = state ∙ tells.knows.state;
          told = λ key. ⊎_elim
              (λ (on : is_among same_leaves key (inner_keys spec (calls ++ call ∷ [])) ≡ true).
              last_known-listed spec calls call key on
              ∙ ap (last_or (last_known spec calls key)) (silent key) ∙ tells.knows.told key)
              (λ (off : is_among same_leaves key (inner_keys spec (calls ++ call ∷ [])) ≡ false).
              last_known-absent spec (calls ++ call ∷ []) key off
              ∙ sym (last_known-absent spec calls key
              (subst (λ (s : PredicateState LeafKey). is_among same_leaves key (keys_of s.counts) ≡ false) state off))
              ∙ tells.knows.told key)
              (cases_Bool (is_among same_leaves key (inner_keys spec (calls ++ call ∷ []))));
        };
        since = since-other spec calls call still ∙ tells.since;
      }

  -- so does a crossing
  pub crossing_tells : (calls : List DurationCall) (steps : List Step) (start size : ℕ) (ends : List ℕ)
      → TellsInner calls steps → TellsInner (calls ++ crossing_of start size ends) steps
  crossing_tells calls steps start size [] tells =
      subst (λ cs. TellsInner cs steps) (sym (append-nil calls)) tells
  crossing_tells calls steps start size (first ∷ others) tells =
      quiet_call calls steps
      (Crossed (record { start = start; first_end = first; full_buckets = length others; size = size })) refl
      (λ key. refl) refl tells

  cut_tells : (calls : List DurationCall) (steps : List Step) (at : ℕ) (sized : Bool) → TellsInner calls steps
      → TellsInner (calls ++ (if sized then CutAt at ∷ [] else [])) steps
  cut_tells calls steps at true tells = quiet_call calls steps (CutAt at) refl (λ key. refl) refl tells
  cut_tells calls steps at false tells = subst (λ cs. TellsInner cs steps) (sym (append-nil calls)) tells

  -- and a cut
  pub cutting_tells : (calls : List DurationCall) (steps : List Step) (size : ℕ) (include_current : Bool) (at : ℕ)
      → TellsInner calls steps → TellsInner (calls ++ cutting size include_current at) steps
  cutting_tells calls steps size true at tells = cut_tells calls steps at (nat_lt 0 size) tells
  cutting_tells calls steps size false at tells = subst (λ cs. TellsInner cs steps) (sym (append-nil calls)) tells

  module _ (before : List Step) (step : Step) where
    -- the table of inner keys after one more step
    inner_push : inner_after installed metric spec (before ++ step ∷ [])
        ≡ state_from same_leaves spec (inner_after installed metric spec before)
        (events_of (inner_event_at installed metric step))
    inner_push =
        let events : Step → List (KeyEvent LeafKey) = inner_events (measured installed metric) in
        ap (state_from same_leaves spec (initial_state spec))
        (flat_map-append events before (step ∷ [])
        ∙ ap (λ l. flat_map events before ++ l)
        (append-nil (events step) ∙ one_event (measured installed metric) step))
        ∙ of_event (flat_map events before) (inner_event_at installed metric step)
      where
        of_event : (done : List (KeyEvent LeafKey)) (event : Option InnerEvent)
            → state_from same_leaves spec (initial_state spec) (done ++ events_of event)
            ≡ state_from same_leaves spec (state_from same_leaves spec (initial_state spec) done) (events_of event)
        of_event done None = ap (state_from same_leaves spec (initial_state spec)) (append-nil done)
        of_event done (Some event) =
            state_from-push same_leaves spec (initial_state spec) done
            (record { event = event.event; key = event.key })

    -- the event came, if the step has one
    pub acted : (calls : List DurationCall) (at : ℕ) (event : Option InnerEvent)
        → inner_event_at installed metric step ≡ event → TellsInner calls before
        → KnowsActed (calls ++ coming at event) before step
    acted calls at None is tells =
        subst (λ cs. KnowsActed cs before step) (sym (append-nil calls)) (record {
          state = tells.knows.state
              ∙ sym (inner_push ∙ ap (λ e. state_from same_leaves spec (inner_after installed metric spec before)
              (events_of e)) is);
          told = λ key among. tells.knows.told key;
          since = tells.since;
        })
    acted calls at (Some event) is tells =
        let state : inner_state spec (calls ++ Got at event ∷ [])
        ≡ inner_after installed metric spec (before ++ step ∷ []) =
        inner_state-got spec calls at event
        ∙ ap (λ (s : PredicateState LeafKey). state_after same_leaves spec s event.event event.key) tells.knows.state
        ∙ sym (inner_push ∙ ap (λ e. state_from same_leaves spec (inner_after installed metric spec before)
        (events_of e)) is) in
        record {
          state = state;
          told = λ key among. last_known-listed spec calls (Got at event) key
              (subst (λ (s : PredicateState LeafKey). is_among same_leaves key (keys_of s.counts) ≡ true) (sym state)
              among)
              ∙ tells.knows.told key;
          since = since-other spec calls (Got at event) refl ∙ tells.since;
        }

    abbrev steps : List Step
    steps = before ++ step ∷ []

    abbrev changes : List InnerChange
    changes = inner_changes installed metric spec before step

    -- then what changed was told
    pub learned : (calls : List DurationCall) (at : ℕ) → KnowsActed calls before step
        → TellsInner (calls ++ Learned at (record { changes = changes }) ∷ []) steps
    learned calls at knows =
        let call : DurationCall = Learned at (record { changes = changes }) in
        let state : inner_state spec (calls ++ call ∷ []) ≡ inner_after installed metric spec steps =
        inner_state-other spec calls call refl ∙ knows.state in
        let listed = listed_after installed metric spec steps in
        let both : KnowsInner (calls ++ call ∷ []) steps = record {
          state = state;
          told = λ key. ⊎_elim
              (λ (on : is_among same_leaves key listed ≡ true).
              last_known-listed spec calls call key
              (subst (λ (s : PredicateState LeafKey). is_among same_leaves key (keys_of s.counts) ≡ true)
              (sym state) on)
              ∙ ap (λ (s : PredicateState LeafKey). last_or (last_known spec calls key)
              (known_at changes (position (same_leaves key) (keys_of s.counts)))) knows.state
              ∙ ap (λ (o : Option Known). last_or o (known_at changes (position (same_leaves key) listed)))
              (knows.told key on)
              ∙ told_once spec (told_after installed metric spec before)
              (known_after installed metric steps) key listed on
              ∙ sym (listed_told steps key on))
              (λ (off : is_among same_leaves key listed ≡ false).
              last_known-absent spec (calls ++ call ∷ []) key
              (subst (λ (s : PredicateState LeafKey). is_among same_leaves key (keys_of s.counts) ≡ false) (sym state)
              off)
              ∙ sym (unlisted_told steps key off))
              (cases_Bool (is_among same_leaves key listed));
        } in
        record {
          knows = both;
          since = since-learned spec calls at (record { changes = changes })
              ∙ active_are (calls ++ call ∷ []) steps both;
        }

    -- where nothing changed and no event came, all was told
    pub untold : (calls : List DurationCall) → changes ≡ [] → TellsInner calls before → KnowsActed calls before step
        → TellsInner calls steps
    untold calls none tells knows =
        let listed = listed_after installed metric spec steps in
        let both : KnowsInner calls steps = record {
          state = knows.state;
          told = λ key. ⊎_elim
              (λ (on : is_among same_leaves key listed ≡ true).
              knows.told key on
              ∙ sym (ap (λ place. last_or (told_after installed metric spec before key) (known_at [] place))
              (position_is key listed on))
              ∙ ap (λ cs. last_or (told_after installed metric spec before key)
              (known_at cs (position (same_leaves key) listed))) (sym none)
              ∙ told_once spec (told_after installed metric spec before)
              (known_after installed metric steps) key listed on
              ∙ sym (listed_told steps key on))
              (λ (off : is_among same_leaves key listed ≡ false).
              last_known-absent spec calls key
              (subst (λ (s : PredicateState LeafKey). is_among same_leaves key (keys_of s.counts) ≡ false)
              (sym knows.state) off)
              ∙ sym (unlisted_told steps key off))
              (cases_Bool (is_among same_leaves key listed));
        } in
        record {
          knows = both;
          since = tells.since ∙ sym (active_are calls before tells.knows) ∙ active_are calls steps both;
        }

    -- what a step asks tells what is so after it
    pub asks_tell : (calls : List DurationCall) (at : ℕ) → TellsInner calls before
        → TellsInner (calls ++ (coming at (inner_event_at installed metric step)
        ++ learning at (delta_with (is_some (inner_event_at installed metric step)) changes))) steps
    asks_tell calls at tells = by_event (inner_event_at installed metric step) refl where
      by_changes : (told : List InnerChange) → changes ≡ told → inner_event_at installed metric step ≡ None
          → TellsInner (calls ++ learning at (delta_with false told)) steps
      by_changes [] none is =
          subst (λ cs. TellsInner cs steps) (sym (append-nil calls))
          (untold calls none tells
          (subst (λ cs. KnowsActed cs before step) (append-nil calls) (acted calls at None is tells)))
      by_changes (first ∷ others) some is =
          subst (λ told. TellsInner (calls ++ Learned at (record { changes = told }) ∷ []) steps) some
          (learned calls at
          (subst (λ cs. KnowsActed cs before step) (append-nil calls) (acted calls at None is tells)))

      by_event : (event : Option InnerEvent) → inner_event_at installed metric step ≡ event
          → TellsInner (calls ++ (coming at event ++ learning at (delta_with (is_some event) changes))) steps
      by_event None is = by_changes changes refl is
      by_event (Some event) is =
          subst (λ cs. TellsInner cs steps)
          (append_assoc calls (Got at event ∷ []) (Learned at (record { changes = changes }) ∷ []))
          (learned (calls ++ Got at event ∷ []) at (acted calls at (Some event) is tells))

    -- a quiet step leaves all as it was
    pub quiet_tells : (calls : List DurationCall) → IsQuiet step → TellsInner calls before → TellsInner calls steps
    quiet_tells calls quiet tells =
        let same = inner_stays installed metric spec before step (quiet_inner installed metric before step quiet) in
        let both : KnowsInner calls steps = record {
          state = tells.knows.state ∙ sym same;
          told = λ key. tells.knows.told key
              ∙ sym (ap (λ (s : PredicateState LeafKey). if is_among same_leaves key (keys_of s.counts)
              then Some (known_after installed metric steps key) else None) same
              ∙ ap (λ known. if is_among same_leaves key (listed_after installed metric spec before)
              then Some known else None) (quiet_known installed metric before step quiet key));
        } in
        record {
          knows = both;
          since = tells.since ∙ sym (active_are calls before tells.knows) ∙ active_are calls steps both;
        }

    -- and brings nothing
    pub quiet_event : IsQuiet step → inner_event_at installed metric step ≡ None
    quiet_event quiet = ap first_event_of (quiet_inner installed metric before step quiet)

    pub quiet_changes : IsQuiet step → inner_changes installed metric spec before step ≡ []
    quiet_changes quiet =
        let same = inner_stays installed metric spec before step (quiet_inner installed metric before step quiet) in
        nothing_told spec (told_after installed metric spec before) (known_after installed metric (before ++ step ∷ []))
        0 (listed_after installed metric spec (before ++ step ∷ []))
        (λ key among. listed_told before key
        (subst (λ (s : PredicateState LeafKey). is_among same_leaves key (keys_of s.counts) ≡ true) same among)
        ∙ ap (λ known. Some known) (sym (quiet_known installed metric before step quiet key)))

  -- the calls up to what a frame crosses
  abbrev crossed_calls : List Step → LogFrame → ℕ → List DurationCall
  crossed_calls before frame at = calls_crossed (sum_asking installed metric spec) sum_collecting before frame at

  -- one more step
  step_tells : (calls : List DurationCall) (before : List Step) (at : ℕ) (what : What) (truths : List Bool)
      → let step : Step = record { at = at; what = what; truths = truths } in
      TellsInner calls before
      → TellsInner (calls ++ calls_of_step (sum_asking installed metric spec) sum_collecting before step)
      (before ++ step ∷ [])
  step_tells calls before at (Logged frame) truths tells =
      let asking = sum_asking installed metric spec in
      let step : Step = record { at = at; what = Logged frame; truths = truths } in
      let base = (own_demands asking sum_collecting).base in
      let size = (own_demands asking sum_collecting).size in
      let told = told_by (steps_seen asking before) in
      let start = last_time base (boundaries base size told) in
      let ends = boundaries_at base size told (Saw (moment_of frame at)) in
      subst (λ cs. TellsInner cs (before ++ step ∷ []))
      (append_assoc calls (crossing_of start size ends) (asked_at asking before frame at truths))
      (asks_tell before step (calls ++ crossing_of start size ends) at
      (crossing_tells calls before start size ends tells))
  step_tells calls before at (Reported include_current) truths tells =
      let size = (own_demands (sum_asking installed metric spec) sum_collecting).size in
      let step : Step = record { at = at; what = Reported include_current; truths = truths } in
      subst (λ cs. TellsInner cs (before ++ step ∷ []))
      (append_assoc calls (cutting size include_current at) (Took ∷ []))
      (quiet_tells before step ((calls ++ cutting size include_current at) ++ Took ∷ [])
      (report_quiet at include_current truths)
      (quiet_call (calls ++ cutting size include_current at) before Took refl (λ key. refl) refl
      (cutting_tells calls before size include_current at tells)))

  -- all steps, where others came before
  steps_tell : (before steps : List Step)
      → TellsInner (outputs (calls_of_step (sum_asking installed metric spec) sum_collecting) before) before
      → TellsInner (outputs (calls_of_step (sum_asking installed metric spec) sum_collecting) (before ++ steps))
      (before ++ steps)
  steps_tell before [] tells =
      subst (λ ss. TellsInner (outputs (calls_of_step (sum_asking installed metric spec) sum_collecting) ss) ss)
      (sym (append-nil before)) tells
  steps_tell before (step ∷ steps) tells =
      let each = calls_of_step (sum_asking installed metric spec) sum_collecting in
      subst (λ ss. TellsInner (outputs each ss) ss) (append_assoc before (step ∷ []) steps)
      (steps_tell (before ++ step ∷ []) steps
      (subst (λ cs. TellsInner cs (before ++ step ∷ [])) (sym (outputs-push each before step))
      (step_tells (outputs each before) before step.at step.what step.truths tells)))

  -- The calls of all steps tell what is so after them.
  pub calls_tell : (steps : List Step)
      → TellsInner (calls_by_steps (sum_asking installed metric spec) sum_collecting steps) steps
  calls_tell steps =
      subst (λ cs. TellsInner cs steps) (sym (calls_are (sum_asking installed metric spec) sum_collecting steps))
      (steps_tell [] steps (record {
        knows = record { state = refl; told = λ key. last_known-absent spec [] key refl };
        since = refl;
      }))

  -- and so do those up to what a frame crosses
  pub crossed_tell : (before : List Step) (frame : LogFrame) (at : ℕ)
      → TellsInner (crossed_calls before frame at) before
  crossed_tell before frame at =
      let asking = sum_asking installed metric spec in
      let base = (own_demands asking sum_collecting).base in
      let size = (own_demands asking sum_collecting).size in
      let told = told_by (steps_seen asking before) in
      crossing_tells (calls_by_steps asking sum_collecting before) before (last_time base (boundaries base size told))
      size (boundaries_at base size told (Saw (moment_of frame at))) (calls_tell before)
