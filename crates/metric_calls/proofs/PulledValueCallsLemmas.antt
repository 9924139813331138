-- What a metric of pulled values shows is what its calls mean: lemmas on `specs/PulledValueCalls.antt`, for the proofs
-- of instances.
use Rattle.std.proofs.Common.{◌≡◌, ℕ, Bool, true, false, List, [], ◌∷◌, ◌++◌, Option, None, if◌then◌else◌, refl, sym, ap, ◌∙◌}
use Rattle.std.specs.List.{flat_map, last_or}
use Rattle.std.specs.Option.{option_map}
use Rattle.std.proofs.lemmas.List.{append-nil}
use Rattle.atom_record.specs.declared.atom.Atom.{Atom}
use Rattle.atom_record.specs.declared.log.LogFrame.{LogFrame}
use Rattle.atom_record.specs.declared.log.LogFrame.TheVariants.{Tick, AtomAt, Pull}
use Rattle.config_types.specs.declared.parameters.DiffSpec.{DiffSpec}
use Rattle.config_links.specs.declared.linked.LMetric.{LMetric}
use Rattle.condition_links.specs.ThreeValues.{is_true}
use Rattle.metric_kinds.specs.Diffs.{KeyedInts, interval_marks}
use Rattle.metric_kinds.specs.Intervals.{open_after, ended_with, ended_at_moment}
use Rattle.metric_producer.specs.Calls.{Got}
use Rattle.metric_producer.specs.Rules.{AreTold}
use Rattle.metric_producer.specs.LaneCalls.{AreAskedAt}
use Rattle.value_metric.specs.PulledValues.{PulledValueCall, is_truth, integers_found, last_found}
use Rattle.value_metric.specs.CallIntervals.{open_by_calls}
use Rattle.value_metric.specs.PulledCollecting.{pulled_collecting}
use Rattle.metric_meaning.specs.Histories.{Step, Installation}
use Rattle.metric_meaning.specs.Scenes.{scene_after}
use Rattle.metric_meaning.specs.ValueLeaves.{ValueLeaf}
use Rattle.metric_meaning.specs.SnapshotSteps.{snapshot_found}
use Rattle.metric_meaning.specs.PulledIntervals.{Watch, seen_after, begun_with_parts, all_begun, open_interval, open_before, ended_by_step}
use Rattle.metric_meaning.specs.PulledValueSteps.{pulled_integers, watched_integers}
use Rattle.metric_meaning.specs.Touched.{is_touched}
use Rattle.metric_calls.specs.Askings.{frame_step, asked_at, own_demands, calls_by_steps, calls_crossed, marks_after, AsksWell, Agrees}
use Rattle.metric_calls.specs.SnapshotCalls.{is_told_of, truth_in, pull_calls, atom_calls}
use Rattle.metric_calls.specs.PulledValueCalls.{pulled_value_params, value_telling, pulled_value_asking}
use Rattle.metric_calls.proofs.SnapshotCallsLemmas.{truth_stays, untouched_truth, found_kept}
use Rattle.metric_calls.proofs.PulledIntervalCallsLemmas.{same_truth, remembered_now, remembered_crossed, found_is, seen_is, open_is, open_crossed}

module _ (installed : Installation) (metric : LMetric) (source : ValueLeaf) (spec : DiffSpec) where
  -- what the metric watches
  abbrev watch : Watch (Option KeyedInts)
  watch = watched_integers installed metric source

  -- a step after which the condition stays ends no interval
  ends_none : (before : List Step) (step : Step)
      → truth_in (scene_after installed (before ++ step ∷ [])) metric ≡ truth_in (scene_after installed before) metric
      → ended_by_step watch before step ≡ []
  ends_none before step stays =
      let begun = last_or None (all_begun watch before ++ begun_with_parts watch before step) in
      let found = watch.found (before ++ step ∷ []) in
      ap (λ truth. if is_true truth then [] else ended_with (open_before watch before step) found) stays
      ∙ by (watch.holds before) begun found where
        by : (held : Bool) (last : Option (Option KeyedInts)) (found : Option KeyedInts)
            → (if held then [] else ended_with (if held then last else None) found) ≡ []
        by true last found = refl
        by false last found = refl

  -- what is told of an atom has the marks that it brings
  atom_marks : (before : List Step) (at when : ℕ) (atom : Atom) (truths : List Bool) (touched : Bool)
      → is_touched installed.linked.predicates metric truths ≡ touched
      → let frame : LogFrame = AtomAt when atom in
      let step = frame_step frame at truths in
      let asking = pulled_value_asking installed metric source spec in
      marks_after asking pulled_collecting (calls_crossed asking pulled_collecting before frame at)
      (atom_calls (value_telling metric source) touched at
      (truth_in (scene_after installed (before ++ step ∷ [])) metric) truths)
      ≡ asking.way.shown.comes before step
  atom_marks before at when atom truths false untouched =
      let step = frame_step (AtomAt when atom) at truths in
      sym (ap (flat_map (interval_marks spec))
      (ends_none before step (untouched_truth installed metric before step untouched)))
  atom_marks before at when atom truths true touched =
      let frame : LogFrame = AtomAt when atom in
      let step = frame_step frame at truths in
      let asking = pulled_value_asking installed metric source spec in
      let crossed = calls_crossed asking pulled_collecting before frame at in
      let now = truth_in (scene_after installed (before ++ step ∷ [])) metric in
      let gives = flat_map (interval_marks spec) in
      let stays = found_kept installed metric before step refl in
      let found_now : last_found crossed ≡ watch.found (before ++ step ∷ []) =
      found_is installed metric source spec crossed before
      (remembered_crossed installed metric source spec before frame at)
      ∙ ap (option_map (pulled_integers metric source)) (sym stays) in
      append-nil (gives (ended_at_moment (open_by_calls crossed)
      (record { holds = is_truth now; found = last_found crossed })))
      ∙ ap (λ holds. gives (ended_at_moment (open_by_calls crossed)
      (record { holds = holds; found = last_found crossed }))) (same_truth now)
      ∙ ap (λ found. gives (ended_at_moment (open_by_calls crossed)
      (record { holds = watch.holds (before ++ step ∷ []); found = found }))) found_now
      ∙ ap (λ going. gives (ended_at_moment going (seen_after watch (before ++ step ∷ []))))
      (open_crossed installed metric source spec before frame at truths)

  -- what is asked at a frame has the marks that the frame brings
  asked_marks : (before : List Step) (frame : LogFrame) (at : ℕ) (truths : List Bool)
      → let asking = pulled_value_asking installed metric source spec in
      marks_after asking pulled_collecting (calls_crossed asking pulled_collecting before frame at)
      (asked_at asking before frame at truths)
      ≡ asking.way.shown.comes before (frame_step frame at truths)
  asked_marks before (Tick when) at truths =
      let step = frame_step (Tick when) at truths in
      sym (ap (flat_map (interval_marks spec))
      (ends_none before step (truth_stays installed metric before step (λ predicate. refl))))
  asked_marks before (Pull when id outcome) at truths =
      let step = frame_step (Pull when id outcome) at truths in
      let asking = pulled_value_asking installed metric source spec in
      by (is_told_of installed.linked.matchers metric id)
      ∙ sym (ap (flat_map (interval_marks spec))
      (ends_none before step (truth_stays installed metric before step (λ predicate. refl)))) where
        by : (told : Bool)
            → let step = frame_step (Pull when id outcome) at truths in
            let asking = pulled_value_asking installed metric source spec in
            marks_after asking pulled_collecting
            (calls_crossed asking pulled_collecting before (Pull when id outcome) at)
            (pull_calls (value_telling metric source) told at
            (snapshot_found installed metric (before ++ step ∷ [])))
            ≡ []
        by true = refl
        by false = refl
  asked_marks before (AtomAt when atom) at truths =
      atom_marks before at when atom truths (is_touched installed.linked.predicates metric truths) refl

  -- calls and steps agree for pulled values
  pub pulled_values_agree : Agrees (pulled_value_asking installed metric source spec) pulled_collecting
  pulled_values_agree = record {
    made = record { base = refl; size = refl; bound = refl; kind = refl };
    opens = ap (λ l. l ++ []) (opening_ends);
    at_frame = λ before frame at truths. asked_marks before frame at truths;
    at_boundary = λ before.
        let calls = calls_by_steps (pulled_value_asking installed metric source spec) pulled_collecting before in
        let gives = flat_map (interval_marks spec) in
        let found_now = found_is installed metric source spec calls before
        (remembered_now installed metric source spec before) in
        record {
          closing = λ at. ap (λ going. gives (ended_with going (last_found calls)))
              (open_is installed metric source spec before)
              ∙ ap (λ found. gives (ended_with (open_interval watch before) found)) found_now;
          closing_again = λ at.
              ap (λ seen. gives (ended_with (open_after None seen) (last_found calls)))
              (seen_is installed metric source spec calls before (remembered_now installed metric source spec before))
              ∙ ap (λ found. gives (ended_with (open_after None (seen_after watch before)) found)) found_now;
          opening = λ at. refl;
        };
  } where
    -- where nothing is open, the opening condition ends nothing
    opening_ends : (pulled_collecting.learns (pulled_value_params installed.base metric spec)
        (Got installed.base ((value_telling metric source).snapshot (snapshot_found installed metric [])) ∷ [])
        installed.base (truth_in (scene_after installed []) metric))
        ≡ []
    opening_ends = by (is_truth (truth_in (scene_after installed []) metric))
        (integers_found ((value_telling metric source).snapshot (snapshot_found installed metric []))) where
          by : (holds : Bool) (found : Option KeyedInts)
              → flat_map (interval_marks spec) (if holds then [] else ended_with None found) ≡ []
          by true found = refl
          by false found = refl

  -- what a metric of pulled values asks may come
  pub pulled_values_ask_well : AsksWell (pulled_value_asking installed metric source spec) pulled_collecting
  pulled_values_ask_well = record {
    opens = ((refl, refl, tt, (refl, tt)), (tt, (refl, tt)));
    at_frame = λ before frame at truths. by before at truths frame;
  } where
    by : (before : List Step) (at : ℕ) (truths : List Bool) (frame : LogFrame)
        → let asking = pulled_value_asking installed metric source spec in
        let demands = own_demands asking pulled_collecting in
        AreAskedAt demands at (asked_at asking before frame at truths)
        × AreTold demands (calls_crossed asking pulled_collecting before frame at)
        (asked_at asking before frame at truths)
    by before at truths (Tick when) = (tt, tt)
    by before at truths (AtomAt when atom) = told (is_touched installed.linked.predicates metric truths) where
      told : (touched : Bool)
          → let asking = pulled_value_asking installed metric source spec in
          let demands = own_demands asking pulled_collecting in
          let now = truth_in (scene_after installed (before ++ frame_step (AtomAt when atom) at truths ∷ [])) metric in
          let calls : List PulledValueCall = atom_calls (value_telling metric source) touched at now truths in
          AreAskedAt demands at calls
          × AreTold demands (calls_crossed asking pulled_collecting before (AtomAt when atom) at) calls
      told true = ((refl, tt), (refl, tt))
      told false = (tt, tt)
    by before at truths (Pull when id outcome) = told (is_told_of installed.linked.matchers metric id) where
      told : (is_told : Bool)
          → let asking = pulled_value_asking installed metric source spec in
          let demands = own_demands asking pulled_collecting in
          let found = snapshot_found installed metric (before ++ frame_step (Pull when id outcome) at truths ∷ []) in
          let calls : List PulledValueCall = pull_calls (value_telling metric source) is_told at found in
          AreAskedAt demands at calls
          × AreTold demands (calls_crossed asking pulled_collecting before (Pull when id outcome) at) calls
      told true = ((refl, refl, tt, tt), (tt, tt))
      told false = (tt, tt)
