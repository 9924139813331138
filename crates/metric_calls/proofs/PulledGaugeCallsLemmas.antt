-- What a pulled gauge shows is what its calls mean: lemmas on `specs/PulledGaugeCalls.antt`, for the proofs of
-- instances.
use Rattle.std.proofs.Common.{◌≡◌, ℕ, Bool, true, false, not, ◌&&◌, List, [], ◌∷◌, ◌++◌, map, Option, Some, None, if◌then◌else◌, refl, sym, ap, ◌∙◌}
use Rattle.std.specs.List.{flat_map, last_or}
use Rattle.std.specs.Option.{option_map, unwrap_or}
use Rattle.std.proofs.lemmas.List.{append-nil}
use Rattle.atom_record.specs.declared.atom.Atom.{Atom}
use Rattle.atom_record.specs.declared.log.LogFrame.{LogFrame}
use Rattle.atom_record.specs.declared.log.LogFrame.TheVariants.{Tick, AtomAt, Pull}
use Rattle.atom_record.specs.declared.value.MetricKey.{MetricKey}
use Rattle.field_select.specs.declared.leaf.FieldSet.{FieldSet}
use Rattle.config_types.specs.declared.parameters.Sampling.{Sampling}
use Rattle.config_types.specs.declared.parameters.Sampling.TheVariants.{AtStart, AtChange, AtTrigger}
use Rattle.config_links.specs.declared.linked.LMetric.{LMetric}
use Rattle.config_links.specs.declared.linked.LKind.TheVariants.{PulledGauge}
use Rattle.bucket_meaning.specs.Marks.{Mark}
use Rattle.predicate_state.specs.declared.truth.Truth.{Truth}
use Rattle.predicate_state.specs.declared.truth.Truth.TheVariants.{False, Unknown, True}
use Rattle.condition_links.specs.ThreeValues.{is_true}
use Rattle.metric_kinds.specs.PulledSamples.{KeyedAtoms, sample_marks}
use Rattle.metric_producer.specs.Calls.{Got, Learned, Crossed, CutAt, Took}
use Rattle.metric_producer.specs.Rules.{AreTold}
use Rattle.metric_producer.specs.LaneCalls.{AreAskedAt}
use Rattle.gauge_metric.specs.declared.gauge.KeyedAtom.{KeyedAtom}
use Rattle.gauge_metric.specs.declared.snapshot.SnapAtoms.{SnapAtoms}
use Rattle.gauge_metric.specs.declared.snapshot.SnapAtoms.TheVariants.{Snapshot, Trigger}
use Rattle.gauge_metric.specs.PulledSampling.{PulledGaugeCall, snapshots_in, truths_in, last_snapshot, last_condition, is_told_held, is_start_moment, is_told_moment, is_trigger_moment, keyed, moment_marks, marks_if, pulled_collecting}
use Rattle.metric_meaning.specs.Histories.{Step, Installation}
use Rattle.metric_meaning.specs.PredicateSteps.{named_truth}
use Rattle.metric_meaning.specs.Scenes.{scene_after}
use Rattle.metric_meaning.specs.SnapshotSteps.{snapshot_found}
use Rattle.metric_meaning.specs.PulledIntervals.{Watch}
use Rattle.metric_meaning.specs.PulledGaugeSteps.{pulled_samples, watched_samples, is_moment, sampled_at_start, pulled_gauge_way}
use Rattle.metric_meaning.specs.Touched.{is_touched}
use Rattle.metric_meaning.proofs.PulledStepsLemmas.{no_sample_comes}
use Rattle.metric_calls.specs.Askings.{frame_step, asked_at, own_demands, calls_by_steps, calls_crossed, marks_after, AsksWell, Agrees}
use Rattle.metric_calls.specs.Memories.{Memory, remembered, Follows}
use Rattle.metric_calls.specs.PushedGaugeCalls.{handed_sample}
use Rattle.metric_calls.specs.SnapshotCalls.{is_told_of, truth_in, pull_calls, atom_calls}
use Rattle.metric_calls.specs.PulledGaugeCalls.{sample_spec, pulled_gauge_params, handed_samples, gauge_telling, pulled_gauge_asking}
use Rattle.metric_calls.proofs.MemoriesLemmas.{remembered-append, remembered-is, remembered-crossed}
use Rattle.metric_calls.proofs.SnapshotCallsLemmas.{truth_stays, found_kept, truth_and, TakesTold, told_follows}

-- samples that were handed over are what they were
handed_keyed : (samples : KeyedAtoms) → keyed (map handed_sample samples) ≡ samples
handed_keyed [] = refl
handed_keyed (sample ∷ samples) = ap (λ others. sample ∷ others) (handed_keyed samples)

-- so are those of a snapshot, if there is one
handed_found : (found : Option KeyedAtoms) → moment_marks (handed_samples found) ≡ sample_marks found
handed_found None = refl
handed_found (Some samples) = ap (λ l. sample_marks (Some l)) (handed_keyed samples)

-- a condition is told to hold where it is true
told_held : (truth : Truth) → is_told_held (Some truth) ≡ is_true truth
told_held False = refl
told_held Unknown = refl
told_held True = refl

-- nothing is so and not so
never_both : (b : Bool) → (b && not b) ≡ false
never_both true = refl
never_both false = refl

-- the last snapshot takes the place of the one before, and a trigger leaves it
abbrev takes_samples : Option (Option (List KeyedAtom)) → SnapAtoms → Option (Option (List KeyedAtom))
takes_samples was (Snapshot found) = Some found
takes_samples was Trigger = was

-- what a pulled gauge remembers of calls: the condition that was told last, and the last snapshot
abbrev gauge_memory : Memory (Option Truth × Option (Option (List KeyedAtom))) SnapAtoms Truth
gauge_memory = truth_and takes_samples

-- the snapshot that was told last is the one that is remembered
snapshot_remembered : (truth : Option Truth) (found : Option (Option (List KeyedAtom))) (calls : List PulledGaugeCall)
    → last_or found (flat_map snapshots_in calls) ≡ (remembered gauge_memory (truth, found) calls).1
snapshot_remembered truth found [] = refl
snapshot_remembered truth found (Got at (Snapshot next) ∷ calls) = snapshot_remembered truth (Some next) calls
snapshot_remembered truth found (Got at Trigger ∷ calls) = snapshot_remembered truth found calls
snapshot_remembered truth found (Learned at now ∷ calls) = snapshot_remembered (Some now) found calls
snapshot_remembered truth found (Crossed crossings ∷ calls) = snapshot_remembered truth found calls
snapshot_remembered truth found (CutAt at ∷ calls) = snapshot_remembered truth found calls
snapshot_remembered truth found (Took ∷ calls) = snapshot_remembered truth found calls

-- and so is the condition
condition_remembered : (truth : Option Truth) (found : Option (Option (List KeyedAtom))) (calls : List PulledGaugeCall)
    → last_or truth (flat_map truths_in calls) ≡ (remembered gauge_memory (truth, found) calls).0
condition_remembered truth found [] = refl
condition_remembered truth found (Got at (Snapshot next) ∷ calls) = condition_remembered truth (Some next) calls
condition_remembered truth found (Got at Trigger ∷ calls) = condition_remembered truth found calls
condition_remembered truth found (Learned at now ∷ calls) = condition_remembered (Some now) found calls
condition_remembered truth found (Crossed crossings ∷ calls) = condition_remembered truth found calls
condition_remembered truth found (CutAt at ∷ calls) = condition_remembered truth found calls
condition_remembered truth found (Took ∷ calls) = condition_remembered truth found calls

-- what is remembered of calls, from the beginning
abbrev gauge_memory_of : List PulledGaugeCall → Option Truth × Option (Option (List KeyedAtom))
gauge_memory_of calls = remembered gauge_memory (None, None) calls

-- at a start samples are taken of the snapshot, if that is the mode and the condition is true
start_marks : (mode : Sampling) (trigger : Option ℕ) (watch : Watch (Option KeyedAtoms)) (steps : List Step)
    (truth : Truth) → is_true truth ≡ watch.holds steps
    → marks_if (is_start_moment mode (Some truth)) (handed_samples (watch.found steps))
    ≡ sampled_at_start mode trigger watch steps
start_marks AtStart trigger watch steps truth is =
    ap (λ held. marks_if held (handed_samples (watch.found steps))) (told_held truth ∙ is)
    ∙ ap (λ marks. if watch.holds steps then marks else []) (handed_found (watch.found steps))
start_marks AtChange trigger watch steps truth is = refl
start_marks AtTrigger trigger watch steps truth is = refl

-- the first condition is as a part's start
first_marks : (mode : Sampling) (trigger : Option ℕ) (watch : Watch (Option KeyedAtoms)) (truth : Truth)
    → is_true truth ≡ watch.holds []
    → marks_if (is_told_moment mode None truth) (handed_samples (watch.found []))
    ≡ sampled_at_start mode trigger watch []
first_marks AtStart trigger watch truth is =
    ap (λ held. marks_if (held && true) (handed_samples (watch.found []))) (told_held truth ∙ is)
    ∙ ap (λ held. marks_if held (handed_samples (watch.found []))) (and_true (watch.holds []))
    ∙ ap (λ marks. if watch.holds [] then marks else []) (handed_found (watch.found []))
  where
    and_true : (b : Bool) → (b && true) ≡ b
    and_true true = refl
    and_true false = refl
first_marks AtChange trigger watch truth is = refl
first_marks AtTrigger trigger watch truth is = refl

-- what an atom's trigger gives, if it matches
trigger_marks : (mode : Sampling) (truth : Truth) (found : Option (List KeyedAtom)) (triggers : Bool)
    → (if triggers then marks_if (is_trigger_moment mode (Some truth)) found else [])
    ≡ marks_if (triggers && is_trigger_moment mode (Some truth)) found
trigger_marks mode truth found true = refl
trigger_marks mode truth found false = refl

-- the moments of an atom are those of its step: it is told the condition after it, and then its trigger
moment_is : (mode : Sampling) (trigger : Option ℕ) (watch : Watch (Option KeyedAtoms)) (before : List Step)
    (at when : ℕ) (atom : Atom) (truths : List Bool) (was now : Truth) (found : Option (List KeyedAtom))
    → is_true was ≡ watch.holds before
    → is_true now ≡ watch.holds (before ++ frame_step (AtomAt when atom) at truths ∷ [])
    → marks_if (is_told_moment mode (Some was) now) found
    ++ marks_if (named_truth trigger truths && is_trigger_moment mode (Some now)) found
    ≡ (if is_moment mode trigger watch before (frame_step (AtomAt when atom) at truths) then moment_marks found
    else [])
moment_is AtStart trigger watch before at when atom truths was now found was_is now_is =
    ap (λ b. marks_if (is_told_held (Some now) && not (is_told_held (Some was))) found ++ marks_if b found)
    (and_false (named_truth trigger truths))
    ∙ append-nil (marks_if (is_told_held (Some now) && not (is_told_held (Some was))) found)
    ∙ ap (λ held. marks_if (held && not (is_told_held (Some was))) found) (told_held now ∙ now_is)
    ∙ ap (λ held. marks_if (watch.holds (before ++ frame_step (AtomAt when atom) at truths ∷ []) && not held) found)
    (told_held was ∙ was_is)
  where
    and_false : (b : Bool) → (b && false) ≡ false
    and_false true = refl
    and_false false = refl
moment_is AtChange trigger watch before at when atom truths was now found was_is now_is =
    ap (λ b. marks_if (is_told_held (Some now) && not (is_told_held (Some was))) found ++ marks_if b found)
    (and_false (named_truth trigger truths))
    ∙ append-nil (marks_if (is_told_held (Some now) && not (is_told_held (Some was))) found)
    ∙ ap (λ held. marks_if (held && not (is_told_held (Some was))) found) (told_held now ∙ now_is)
    ∙ ap (λ held. marks_if (watch.holds (before ++ frame_step (AtomAt when atom) at truths ∷ []) && not held) found)
    (told_held was ∙ was_is)
  where
    and_false : (b : Bool) → (b && false) ≡ false
    and_false true = refl
    and_false false = refl
moment_is AtTrigger trigger watch before at when atom truths was now found was_is now_is =
    ap (λ held. marks_if (named_truth trigger truths && held) found) (told_held now ∙ now_is)

-- a step after which the condition stays, and which is no atom, is no moment
no_moment : (mode : Sampling) (trigger : Option ℕ) (watch : Watch (Option KeyedAtoms)) (before : List Step)
    (at : ℕ) (frame : LogFrame) (truths : List Bool)
    → watch.holds (before ++ frame_step frame at truths ∷ []) ≡ watch.holds before
    → is_moment AtTrigger trigger watch before (frame_step frame at truths) ≡ false
    → is_moment mode trigger watch before (frame_step frame at truths) ≡ false
no_moment AtStart trigger watch before at frame truths stays none =
    ap (λ held. held && not (watch.holds before)) stays ∙ never_both (watch.holds before)
no_moment AtChange trigger watch before at frame truths stays none =
    ap (λ held. held && not (watch.holds before)) stays ∙ never_both (watch.holds before)
no_moment AtTrigger trigger watch before at frame truths stays none = none

module _ (installed : Installation) (metric : LMetric) (fields : Option FieldSet) (samples : ℕ) (mode : Sampling)
    (trigger : Option ℕ) where
  abbrev watch : Watch (Option KeyedAtoms)
  watch = watched_samples installed metric fields

  -- what the steps up to some have left, as calls tell it
  abbrev stands_now : List Step → Option Truth × Option (Option (List KeyedAtom))
  stands_now steps =
      (Some (truth_in (scene_after installed steps) metric), Some (handed_samples (watch.found steps)))

  -- what is told is taken as it is, and a trigger changes nothing of it
  gauge_told : TakesTold (gauge_telling metric fields trigger) takes_samples
      (λ (found : Option (List Atom)). Some (handed_samples (option_map (pulled_samples metric fields) found)))
  gauge_told = record {
    snapshot = λ was found. refl;
    atom = λ was at truths truth. by was at truth (named_truth trigger truths);
  } where
    by : (was : Option (Option (List KeyedAtom))) (at : ℕ) (truth : Option Truth) (triggers : Bool)
        → remembered gauge_memory (truth, was)
        (map (λ (event : SnapAtoms). Got at event) (if triggers then Trigger ∷ [] else []))
        ≡ (truth, was)
    by was at truth true = refl
    by was at truth false = refl

  -- so what is remembered follows the steps
  gauge_follows : Follows (pulled_gauge_asking installed metric fields samples mode trigger) gauge_memory (None, None)
      stands_now
  gauge_follows =
      told_follows (pulled_gauge_way installed metric fields samples mode trigger)
      (pulled_gauge_params installed.base metric (sample_spec samples mode)) (gauge_telling metric fields trigger)
      installed metric takes_samples
      (λ (found : Option (List Atom)). Some (handed_samples (option_map (pulled_samples metric fields) found)))
      gauge_told None

  -- the calls of steps are remembered as what stands after the steps
  remembered_now : (steps : List Step)
      → gauge_memory_of (calls_by_steps (pulled_gauge_asking installed metric fields samples mode trigger)
      pulled_collecting steps)
      ≡ stands_now steps
  remembered_now =
      remembered-is (pulled_gauge_asking installed metric fields samples mode trigger) pulled_collecting gauge_memory
      (None, None) stands_now gauge_follows

  -- so they are once a frame's crossing came
  remembered_crossed : (before : List Step) (frame : LogFrame) (at : ℕ)
      → gauge_memory_of (calls_crossed (pulled_gauge_asking installed metric fields samples mode trigger)
      pulled_collecting before frame at)
      ≡ stands_now before
  remembered_crossed =
      remembered-crossed (pulled_gauge_asking installed metric fields samples mode trigger) pulled_collecting
      gauge_memory (None, None) stands_now gauge_follows

  -- the condition that such calls told last
  condition_is : (calls : List PulledGaugeCall) (told : Option Truth × Option (Option (List KeyedAtom)))
      → gauge_memory_of calls ≡ told → last_condition calls ≡ told.0
  condition_is calls told is =
      condition_remembered None None calls
      ∙ ap (λ (memory : Option Truth × Option (Option (List KeyedAtom))). memory.0) is

  -- and the snapshot
  snapshot_is : (calls : List PulledGaugeCall) (told : Option Truth × Option (Option (List KeyedAtom)))
      → gauge_memory_of calls ≡ told → last_snapshot calls ≡ unwrap_or told.1 None
  snapshot_is calls told is =
      ap (λ found. unwrap_or found None) (snapshot_remembered None None calls
      ∙ ap (λ (memory : Option Truth × Option (Option (List KeyedAtom))). memory.1) is)

  -- a frame that is no atom, and leaves the condition, brings nothing
  idle_marks : (before : List Step) (at : ℕ) (frame : LogFrame) (truths : List Bool)
      → truth_in (scene_after installed (before ++ frame_step frame at truths ∷ [])) metric
      ≡ truth_in (scene_after installed before) metric
      → is_moment AtTrigger trigger watch before (frame_step frame at truths) ≡ false
      → (pulled_gauge_asking installed metric fields samples mode trigger).way.shown.comes before
      (frame_step frame at truths)
      ≡ []
  idle_marks before at frame truths stays none =
      ap (λ moment. if moment then sample_marks (watch.found (before ++ frame_step frame at truths ∷ [])) else [])
      (no_moment mode trigger watch before at frame truths (ap is_true stays) none)

  -- what is told of an atom has the marks that it brings
  atom_marks : metric.kind ≡ PulledGauge fields samples mode trigger → (before : List Step) (at when : ℕ) (atom : Atom)
      (truths : List Bool) (touched : Bool) → is_touched installed.linked.predicates metric truths ≡ touched
      → let frame : LogFrame = AtomAt when atom in
      let step = frame_step frame at truths in
      let asking = pulled_gauge_asking installed metric fields samples mode trigger in
      marks_after asking pulled_collecting (calls_crossed asking pulled_collecting before frame at)
      (atom_calls (gauge_telling metric fields trigger) touched at
      (truth_in (scene_after installed (before ++ step ∷ [])) metric) truths)
      ≡ asking.way.shown.comes before step
  atom_marks gauge before at when atom truths false untouched =
      sym (no_sample_comes installed metric fields samples mode trigger before
      (frame_step (AtomAt when atom) at truths) gauge untouched)
  atom_marks gauge before at when atom truths true touched =
      let frame : LogFrame = AtomAt when atom in
      let step = frame_step frame at truths in
      let asking = pulled_gauge_asking installed metric fields samples mode trigger in
      let crossed = calls_crossed asking pulled_collecting before frame at in
      let was = truth_in (scene_after installed before) metric in
      let now = truth_in (scene_after installed (before ++ step ∷ [])) metric in
      let call : PulledGaugeCall = Learned at now in
      let after = crossed ++ call ∷ [] in
      let found = handed_samples (watch.found before) in
      let memory = remembered_crossed before frame at in
      let memory_now : gauge_memory_of after ≡ (Some now, Some found) =
      remembered-append gauge_memory (None, None) crossed (call ∷ [])
      ∙ ap (λ told. remembered gauge_memory told (call ∷ [])) memory in
      let stays : watch.found (before ++ step ∷ []) ≡ watch.found before =
      ap (option_map (pulled_samples metric fields)) (found_kept installed metric before step refl) in
      ap (λ told. marks_if (is_told_moment mode told now) (last_snapshot crossed)
      ++ triggered after (named_truth trigger truths)) (condition_is crossed (stands_now before) memory)
      ∙ ap (λ snapshot. marks_if (is_told_moment mode (Some was) now) snapshot
      ++ triggered after (named_truth trigger truths)) (snapshot_is crossed (stands_now before) memory)
      ∙ ap (λ marks. marks_if (is_told_moment mode (Some was) now) found ++ marks)
      (trigger_is after now found memory_now (named_truth trigger truths))
      ∙ moment_is mode trigger watch before at when atom truths was now found refl refl
      ∙ ap (λ marks. if is_moment mode trigger watch before step then marks else [])
      (handed_found (watch.found before) ∙ ap sample_marks (sym stays))
    where
      -- the marks of the trigger, after these calls
      triggered : List PulledGaugeCall → Bool → List (Mark (MetricKey × Atom))
      triggered after triggers =
          marks_after (pulled_gauge_asking installed metric fields samples mode trigger) pulled_collecting after
          (map (λ (event : SnapAtoms). Got at event) (if triggers then Trigger ∷ [] else []))

      trigger_is : (after : List PulledGaugeCall) (now : Truth) (found : Option (List KeyedAtom))
          → gauge_memory_of after ≡ (Some now, Some found) → (triggers : Bool)
          → triggered after triggers ≡ marks_if (triggers && is_trigger_moment mode (Some now)) found
      trigger_is after now found is false = refl
      trigger_is after now found is true =
          append-nil (marks_if (is_trigger_moment mode (last_condition after)) (last_snapshot after))
          ∙ ap (λ told. marks_if (is_trigger_moment mode told) (last_snapshot after))
          (condition_is after (Some now, Some found) is)
          ∙ ap (marks_if (is_trigger_moment mode (Some now))) (snapshot_is after (Some now, Some found) is)

  -- what is asked at a frame has the marks that the frame brings
  gauge_marks : metric.kind ≡ PulledGauge fields samples mode trigger
      → (before : List Step) (frame : LogFrame) (at : ℕ) (truths : List Bool)
      → let asking = pulled_gauge_asking installed metric fields samples mode trigger in
      marks_after asking pulled_collecting (calls_crossed asking pulled_collecting before frame at)
      (asked_at asking before frame at truths)
      ≡ asking.way.shown.comes before (frame_step frame at truths)
  gauge_marks gauge before (Tick when) at truths =
      sym (idle_marks before at (Tick when) truths
      (truth_stays installed metric before (frame_step (Tick when) at truths) (λ predicate. refl)) refl)
  gauge_marks gauge before (Pull when id outcome) at truths =
      by (is_told_of installed.linked.matchers metric id)
      ∙ sym (idle_marks before at (Pull when id outcome) truths
      (truth_stays installed metric before (frame_step (Pull when id outcome) at truths) (λ predicate. refl)) refl)
    where
      by : (told : Bool)
          → let asking = pulled_gauge_asking installed metric fields samples mode trigger in
          marks_after asking pulled_collecting
          (calls_crossed asking pulled_collecting before (Pull when id outcome) at)
          (pull_calls (gauge_telling metric fields trigger) told at
          (snapshot_found installed metric (before ++ frame_step (Pull when id outcome) at truths ∷ [])))
          ≡ []
      by true = refl
      by false = refl
  gauge_marks gauge before (AtomAt when atom) at truths =
      atom_marks gauge before at when atom truths (is_touched installed.linked.predicates metric truths) refl

  -- calls and steps agree for pulled gauges
  pub pulled_gauges_agree : metric.kind ≡ PulledGauge fields samples mode trigger
      → Agrees (pulled_gauge_asking installed metric fields samples mode trigger) pulled_collecting
  pulled_gauges_agree gauge = record {
    made = record { base = refl; size = refl; bound = refl; kind = refl };
    opens = append-nil (marks_if (is_told_moment mode None (truth_in (scene_after installed []) metric))
        (handed_samples (watch.found [])))
        ∙ first_marks mode trigger watch (truth_in (scene_after installed []) metric) refl;
    at_frame = λ before frame at truths. gauge_marks gauge before frame at truths;
    at_boundary = λ before.
        let calls = calls_by_steps (pulled_gauge_asking installed metric fields samples mode trigger) pulled_collecting
        before in
        let memory = remembered_now before in
        record {
          closing = λ at. refl;
          closing_again = λ at. refl;
          opening = λ at.
              ap (λ told. marks_if (is_start_moment mode told) (last_snapshot calls))
              (condition_is calls (stands_now before) memory)
              ∙ ap (marks_if (is_start_moment mode (Some (truth_in (scene_after installed before) metric))))
              (snapshot_is calls (stands_now before) memory)
              ∙ start_marks mode trigger watch before (truth_in (scene_after installed before) metric) refl;
        };
  }

  -- what a pulled gauge asks may come
  pub pulled_gauges_ask_well : AsksWell (pulled_gauge_asking installed metric fields samples mode trigger)
      pulled_collecting
  pulled_gauges_ask_well = record {
    opens = ((refl, refl, tt, (refl, tt)), (tt, (refl, tt)));
    at_frame = λ before frame at truths. by before at truths frame;
  } where
    by : (before : List Step) (at : ℕ) (truths : List Bool) (frame : LogFrame)
        → let asking = pulled_gauge_asking installed metric fields samples mode trigger in
        let demands = own_demands asking pulled_collecting in
        AreAskedAt demands at (asked_at asking before frame at truths)
        × AreTold demands (calls_crossed asking pulled_collecting before frame at)
        (asked_at asking before frame at truths)
    by before at truths (Tick when) = (tt, tt)
    by before at truths (AtomAt when atom) =
        told (is_touched installed.linked.predicates metric truths) (named_truth trigger truths) where
          told : (touched matches : Bool)
              → let asking = pulled_gauge_asking installed metric fields samples mode trigger in
              let demands = own_demands asking pulled_collecting in
              let now = truth_in (scene_after installed (before ++ frame_step (AtomAt when atom) at truths ∷ []))
              metric in
              let calls : List PulledGaugeCall = if touched
              then Learned at now ∷ map (λ event. Got at event) (if matches then Trigger ∷ [] else []) else [] in
              AreAskedAt demands at calls
              × AreTold demands (calls_crossed asking pulled_collecting before (AtomAt when atom) at) calls
          told true true = ((refl, (refl, refl, tt, tt)), (refl, (tt, tt)))
          told true false = ((refl, tt), (refl, tt))
          told false matches = (tt, tt)
    by before at truths (Pull when id outcome) = told (is_told_of installed.linked.matchers metric id) where
      told : (is_told : Bool)
          → let asking = pulled_gauge_asking installed metric fields samples mode trigger in
          let demands = own_demands asking pulled_collecting in
          let found = snapshot_found installed metric (before ++ frame_step (Pull when id outcome) at truths ∷ []) in
          let calls : List PulledGaugeCall = pull_calls (gauge_telling metric fields trigger) is_told at found in
          AreAskedAt demands at calls
          × AreTold demands (calls_crossed asking pulled_collecting before (Pull when id outcome) at) calls
      told true = ((refl, refl, tt, tt), (tt, tt))
      told false = (tt, tt)
