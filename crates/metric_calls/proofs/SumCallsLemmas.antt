-- What a metric that sums durations shows is what its calls mean: lemmas on `specs/DurationCalls.antt`, for proofs of
-- instances.
use Rattle.std.proofs.Common.{◌≡◌, ℕ, ◌-◌, Bool, true, false, ◌&&◌, if◌then◌else◌, List, [], ◌∷◌, ◌++◌, map, length, replicate, Option, Some, None, refl, sym, ap, subst, ◌∙◌, arith, append-nil}
use Rattle.std.specs.Prelude.{is_some}
use Rattle.std.specs.Map.{keys_of}
use Rattle.std.specs.Cmp.Lexicographic.{pointwise_decides}
use Rattle.std.proofs.lemmas.List.{length-map}
use Rattle.std.proofs.lemmas.Option.{none-some, same_Some}
use Rattle.atom_record.specs.Equal.{metric_key_exact}
use Rattle.atom_record.specs.declared.log.LogFrame.TheVariants.{Tick, AtomAt, Pull}
use Rattle.atom_record.specs.declared.value.MetricKey.{MetricKey}
use Rattle.bucket_meaning.specs.Marks.{Mark, Came, Lost}
use Rattle.config_types.specs.declared.parameters.PredSpec.{PredSpec}
use Rattle.config_links.specs.declared.linked.LMetric.{LMetric}
use Rattle.config_links.specs.declared.linked.LPredicate.{LPredicate}
use Rattle.config_links.specs.declared.linked.LPredBody.{LPredBody}
use Rattle.config_links.specs.declared.linked.LPredBody.TheVariants.{Simple, Combo}
use Rattle.field_select.specs.LeafValues.{leaf_value}
use Rattle.predicate_state.specs.declared.event.PredEvent.{PredEvent}
use Rattle.predicate_state.specs.PredicateStates.{PredicateState}
use Rattle.predicate_state.specs.PredicateTable.{LeafKey}
use Rattle.metric_producer.specs.Calls.{Got, Learned}
use Rattle.metric_producer.specs.Rules.{AreTold}
use Rattle.metric_producer.specs.LaneCalls.{coming, AreAskedAt}
use Rattle.metric_kinds.specs.Runs.{Active}
use Rattle.metric_kinds.specs.Durations.{turned}
use Rattle.duration_metric.specs.declared.change.InnerEvent.{InnerEvent}
use Rattle.duration_metric.specs.declared.change.InnerChange.{InnerChange}
use Rattle.duration_metric.specs.declared.change.InnerDelta.{InnerDelta}
use Rattle.duration_metric.specs.InnerKeys.{DurationCall, inner_state, inner_keys, last_known, may_tell, duration_demands}
use Rattle.duration_metric.specs.SumCalls.{active_after, active_since, sum_collecting}
use Rattle.duration_metric.proofs.ActiveLemmas.{since-learned}
use Rattle.metric_meaning.specs.Histories.{What, Logged, Reported, Step, Installation}
use Rattle.metric_meaning.specs.PredicateSteps.{first_event, named_truth, on_key}
use Rattle.metric_meaning.specs.DurationSteps.{inner_fields, measured, inner_events, inner_after, inner_drops, active_keys, sum_news}
use Rattle.metric_calls.specs.Askings.{frame_step, marks_after, calls_crossed, AsksWell, Agrees}
use Rattle.metric_calls.specs.DurationCalls.{first_event_of, delta_with, learning, changes_from, duration_params, listed_after, known_after, told_after, inner_event_at, inner_changes, sum_asking, IsTimedWell}
use Rattle.metric_calls.proofs.InnerChangesLemmas.{all_within, all_apart, each_told, changes_alike}
use Rattle.metric_calls.proofs.InnerToldLemmas.{TellsInner, KnowsActed, acted, learned, untold, calls_tell, crossed_tell}

-- the key of an inner event has as many leaves as the predicate has dimensions
pub event_leaves : (found : Option LPredicate) (step : Step) (event : InnerEvent)
    → first_event_of (inner_events found step) ≡ Some event → length event.key ≡ length (inner_fields found).leaves
event_leaves None step event e = absurd (none-some event e)
event_leaves (Some predicate) step event e = of_what step.what predicate.body e where
  of_event : (key : LeafKey) (fields : ℕ) (found : Option PredEvent) → length key ≡ fields
      → first_event_of (on_key key found) ≡ Some event → length event.key ≡ fields
  of_event key fields None is some = absurd (none-some event some)
  of_event key fields (Some kind) is some =
      sym (ap (λ (ev : InnerEvent). length ev.key)
      (same_Some (record { event = kind; key = key }) event some)) ∙ is

  of_what : (what : What) (body : LPredBody)
      → let s : Step = record step { what = what } in
      first_event_of (inner_events (Some (record predicate { body = body })) s) ≡ Some event
      → length event.key ≡ length (inner_fields (Some (record predicate { body = body }))).leaves
  of_what (Reported include_current) body some = absurd (none-some event some)
  of_what (Logged (Tick at)) body some = absurd (none-some event some)
  of_what (Logged (Pull at id outcome)) body some = absurd (none-some event some)
  of_what (Logged (AtomAt at atom)) (Combo op children) some = absurd (none-some event some)
  of_what (Logged (AtomAt at atom)) (Simple start stop stop_all dims spec) some =
      of_event _ (length dims.leaves) (first_event (named_truth stop_all step.truths) (named_truth stop step.truths)
      (named_truth start step.truths)) (length-map dims.leaves (λ leaf. leaf_value dims.atom_id leaf atom)) some

module _ (installed : Installation) (metric : LMetric) (spec : PredSpec) where
  -- what changed may be told once the step's event came
  pub changes_told : (calls : List DurationCall) (before : List Step) (step : Step)
      → KnowsActed installed metric spec calls before step
      → may_tell spec calls (record { changes = inner_changes installed metric spec before step }) ≡ true
  changes_told calls before step knows =
      let steps = before ++ step ∷ [] in
      let now = known_after installed metric steps in
      let listed = listed_after installed metric spec steps in
      let keys = inner_keys spec calls in
      let keys_are : keys ≡ listed = ap (λ (s : PredicateState LeafKey). keys_of s.counts) knows.state in
      let same : inner_changes installed metric spec before step ≡ changes_from (last_known spec calls) now 0 keys =
      sym (ap (changes_from (last_known spec calls) now 0) keys_are
      ∙ changes_alike (last_known spec calls) (told_after installed metric spec before) now 0 listed knows.told) in
      ap (λ changes. may_tell spec calls (record { changes = changes })) same
      ∙ all_three (all_within spec (last_known spec calls) now keys) (all_apart spec (last_known spec calls) now 0 keys)
      (each_told spec (last_known spec calls) now keys keys (λ key among. among))
    where
      all_three : {one two three : Bool} → one ≡ true → two ≡ true → three ≡ true → (one && (two && three)) ≡ true
      all_three {one} {two} {three} first second third =
          ap (λ b. b && (two && three)) first ∙ ap (λ b. b && three) second ∙ third

  module _ (timed : IsTimedWell installed metric spec) where
    -- what is asked at a frame may come
    pub inner_well : (before : List Step) (step : Step) (calls : List DurationCall) (at : ℕ)
        → TellsInner installed metric spec calls before
        → let demands = duration_demands (duration_params installed.base metric spec) in
        let asked : List DurationCall = coming at (inner_event_at installed metric step)
        ++ learning at (delta_with (is_some (inner_event_at installed metric step))
        (inner_changes installed metric spec before step)) in
        AreAskedAt demands at asked × AreTold demands calls asked
    inner_well before step calls at tells = by_event (inner_event_at installed metric step) refl where
      by_changes : (told : List InnerChange) → inner_changes installed metric spec before step ≡ told
          → inner_event_at installed metric step ≡ None
          → let demands = duration_demands (duration_params installed.base metric spec) in
          let asked : List DurationCall = learning at (delta_with false told) in
          AreAskedAt demands at asked × AreTold demands calls asked
      by_changes [] is none = (tt, tt)
      by_changes (first ∷ others) is none = (
        (refl, tt),
        (
          ap (λ told. may_tell spec calls (record { changes = told })) (sym is)
              ∙ changes_told calls before step
              (subst (λ cs. KnowsActed installed metric spec cs before step) (append-nil calls)
              (acted installed metric spec before step calls at None none tells)),
          tt,
        ),
      )

      by_event : (event : Option InnerEvent) → inner_event_at installed metric step ≡ event
          → let demands = duration_demands (duration_params installed.base metric spec) in
          let asked : List DurationCall = coming at event
          ++ learning at (delta_with (is_some event) (inner_changes installed metric spec before step)) in
          AreAskedAt demands at asked × AreTold demands calls asked
      by_event None is = by_changes (inner_changes installed metric spec before step) refl is
      by_event (Some event) is =
          let leaves : length event.key ≡ spec.leaves =
          event_leaves (measured installed metric) step event is ∙ sym timed.leaves in (
            (refl, grind (arith, leaves), tt, (refl, tt)),
            (
              tt,
              (
                changes_told (calls ++ Got at event ∷ []) before step
                    (acted installed metric spec before step calls at (Some event) is tells),
                tt,
              ),
            ),
          )

    -- what a metric that sums durations asks may come
    pub sums_ask_well : AsksWell (sum_asking installed metric spec) sum_collecting
    sums_ask_well = record {
      opens = (tt, tt);
      at_frame = λ before frame at truths.
          inner_well before (frame_step frame at truths)
          (calls_crossed (sum_asking installed metric spec) sum_collecting before frame at) at
          (crossed_tell installed metric spec before frame at);
    }

  -- no key is lost where their number stays
  lost_none : {X : Type 0} → (dropped : ℕ) (lost : List (Mark X)) → lost ≡ replicate (dropped - dropped) Lost
      → lost ≡ []
  lost_none dropped lost is =
      let zero_is : dropped - dropped ≡ 0 = omega arith in
      is ∙ ap (λ n. replicate n Lost) zero_is

  module _ (before : List Step) (step : Step) (calls : List DurationCall) (at : ℕ)
      (tells : TellsInner installed metric spec calls before) (at_is : step.at ≡ at) where
    abbrev was : List MetricKey
    was = active_keys installed metric spec before

    abbrev now : List MetricKey
    now = active_keys installed metric spec (before ++ step ∷ [])

    abbrev drops : List (Mark (Active MetricKey))
    drops = inner_drops installed metric spec before step

    abbrev changes : List InnerChange
    changes = inner_changes installed metric spec before step

    -- where no event comes, it is as if one came that does nothing
    pub acted_none : inner_event_at installed metric step ≡ None → KnowsActed installed metric spec calls before step
    acted_none none =
        subst (λ cs. KnowsActed installed metric spec cs before step) (append-nil calls)
        (acted installed metric spec before step calls at None none tells)

    none_lost : inner_event_at installed metric step ≡ None → drops ≡ []
    none_lost none =
        let stays : inner_after installed metric spec (before ++ step ∷ []) ≡ inner_after installed metric spec before =
        sym (acted_none none).state ∙ tells.knows.state in
        lost_none (inner_after installed metric spec before).dropped drops
        (ap (λ (s : PredicateState LeafKey). replicate (s.dropped - (inner_after installed metric spec before).dropped)
        Lost) stays)

    told_turn : (cs : List DurationCall) → KnowsActed installed metric spec cs before step
        → turned at (active_since spec cs) (active_after spec (cs ++ Learned at (record { changes = changes }) ∷ []))
        ≡ turned step.at was now
    told_turn cs knows =
        let delta : InnerDelta = record { changes = changes } in
        let tells_now = learned installed metric spec before step cs at knows in
        ap (λ keys. turned at keys (active_after spec (cs ++ Learned at delta ∷ []))) knows.since
        ∙ ap (turned at was) (sym (since-learned spec cs at delta) ∙ tells_now.since)
        ∙ ap (λ t. turned t was now) (sym at_is)

    by_changes : (told : List InnerChange) → changes ≡ told → inner_event_at installed metric step ≡ None
        → marks_after (sum_asking installed metric spec) sum_collecting calls (learning at (delta_with false told))
        ≡ drops ++ turned step.at was now
    by_changes [] is none =
        let same : now ≡ was =
        sym (untold installed metric spec before step calls is tells (acted_none none)).since ∙ tells.since in
        sym (ap (λ l. l ++ turned step.at was now) (none_lost none) ∙ ap (turned step.at was) same
        ∙ ap (λ b. if b then [] else Came (record { at = step.at; keys = was }) ∷ [])
        ((pointwise_decides metric_key_exact was was).1 refl))
    by_changes (first ∷ others) is none =
        ap (λ told. marks_after (sum_asking installed metric spec) sum_collecting calls
        (Learned at (record { changes = told }) ∷ [])) (sym is)
        ∙ append-nil (turned at (active_since spec calls)
        (active_after spec (calls ++ Learned at (record { changes = changes }) ∷ [])))
        ∙ told_turn calls (acted_none none) ∙ ap (λ l. l ++ turned step.at was now) (sym (none_lost none))

    by_event : (event : Option InnerEvent) → inner_event_at installed metric step ≡ event
        → marks_after (sum_asking installed metric spec) sum_collecting calls
        (coming at event ++ learning at (delta_with (is_some event) changes))
        ≡ drops ++ turned step.at was now
    by_event None is = by_changes changes refl is
    by_event (Some event) is =
        let knows = acted installed metric spec before step calls at (Some event) is tells in
        let got : List DurationCall = calls ++ Got at event ∷ [] in
        let turn : List (Mark (Active MetricKey)) = turned at (active_since spec got)
        (active_after spec (got ++ Learned at (record { changes = changes }) ∷ [])) in
        ap (λ (s : PredicateState LeafKey). replicate
        (s.dropped - (inner_state spec calls).dropped) Lost ++ (turn ++ []))
        knows.state
        ∙ ap (λ (s : PredicateState LeafKey). replicate
        ((inner_after installed metric spec (before ++ step ∷ [])).dropped - s.dropped) Lost ++ (turn ++ []))
        tells.knows.state
        ∙ ap (λ l. drops ++ l) (append-nil turn ∙ told_turn got knows)

    -- the marks of what is asked are those of the step
    pub sum_marks : marks_after (sum_asking installed metric spec) sum_collecting calls
        (coming at (inner_event_at installed metric step)
        ++ learning at (delta_with (is_some (inner_event_at installed metric step)) changes))
        ≡ (sum_news installed metric spec).comes before step
    sum_marks = by_event (inner_event_at installed metric step) refl

  module _ (timed : IsTimedWell installed metric spec) where
    -- calls and steps agree for sums of durations
    pub sums_agree : Agrees (sum_asking installed metric spec) sum_collecting
    sums_agree = record {
      made = record { base = refl; size = refl; bound = timed.bound; kind = refl };
      opens = refl;
      at_frame = λ before frame at truths.
          sum_marks before (frame_step frame at truths)
          (calls_crossed (sum_asking installed metric spec) sum_collecting before frame at) at
          (crossed_tell installed metric spec before frame at) refl;
      at_boundary = λ before. record {
        closing = λ at. refl;
        closing_again = λ at. refl;
        opening = λ at. ap (λ keys. Came (record { at = at; keys = keys }) ∷ [])
            (calls_tell installed metric spec before).since;
      };
    }
