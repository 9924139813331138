-- The intervals that the calls of a metric of pulled values begin are those that its steps begin: lemmas on
-- `specs/PulledValueCalls.antt`.
use Rattle.std.proofs.Common.{◌≡◌, ℕ, zero, suc, ◌+◌, Bool, true, false, not, ◌&&◌, List, [], ◌∷◌, ◌++◌, map, length, Option, Some, None, if◌then◌else◌, refl, sym, ap, subst, ◌∙◌}
use Rattle.std.specs.Prelude.{nat_lt}
use Rattle.std.specs.List.{flat_map, last_or}
use Rattle.std.specs.Option.{option_map, unwrap_or}
use Rattle.std.proofs.lemmas.List.{append-nil}
use Rattle.std.proofs.lemmas.List.Concat.{flat_map-append}
use Rattle.sd_base.specs.Outputs.{outputs, outputs_after}
use Rattle.sd_base.proofs.OutputsLemmas.{outputs_after-append}
use Rattle.atom_record.specs.declared.atom.Atom.{Atom}
use Rattle.atom_record.specs.declared.log.LogFrame.{LogFrame}
use Rattle.atom_record.specs.declared.log.LogFrame.TheVariants.{Tick, AtomAt, Pull}
use Rattle.bucket_meaning.specs.Ends.{Moment, ends_from, ends_at}
use Rattle.bucket_clock.specs.Clock.{boundaries, last_time, moments_told}
use Rattle.config_types.specs.declared.parameters.DiffSpec.{DiffSpec}
use Rattle.config_links.specs.declared.linked.LMetric.{LMetric}
use Rattle.predicate_state.specs.declared.truth.Truth.{Truth}
use Rattle.predicate_state.specs.declared.truth.Truth.TheVariants.{False, Unknown, True}
use Rattle.condition_links.specs.ThreeValues.{is_true}
use Rattle.metric_kinds.specs.Diffs.{KeyedInts}
use Rattle.metric_kinds.specs.Intervals.{Seen}
use Rattle.metric_producer.specs.Calls.{Got, Learned, Crossed, CutAt, Took}
use Rattle.metric_producer.specs.LaneCalls.{told_by, crossing_of, cutting}
use Rattle.metric_producer.proofs.LaneReach.{length-ends_from}
use Rattle.value_metric.specs.declared.keyed_int.SnapInts.{SnapInts}
use Rattle.value_metric.specs.PulledValues.{PulledValueCall, snapshot_told, truth_told, told_last, is_truth, integers_found, keyed_ints, last_found, is_told_true, seen_after_calls}
use Rattle.value_metric.specs.CallIntervals.{begun_at_boundaries, begun_by_call, begun_by_calls, open_by_calls}
use Rattle.value_metric.specs.PulledCollecting.{pulled_collecting}
use Rattle.metric_meaning.specs.Histories.{What, Logged, Reported, Step, Installation, moment_of}
use Rattle.metric_meaning.specs.Scenes.{scene_after}
use Rattle.metric_meaning.specs.StepMarks.{moments, crossed_at}
use Rattle.metric_meaning.specs.ValueLeaves.{ValueLeaf}
use Rattle.metric_meaning.specs.SnapshotSteps.{snapshot_found}
use Rattle.metric_meaning.specs.PulledIntervals.{Watch, seen_after, part_starts, begun_if, becomes_true, begun_with_parts, begun_by_step, all_begun, open_interval, open_before}
use Rattle.metric_meaning.specs.PulledValueSteps.{pulled_integers, watched_integers, pulled_value_way}
use Rattle.metric_meaning.specs.Touched.{is_touched}
use Rattle.metric_calls.specs.Askings.{frame_step, steps_seen, asked_at, calls_by_steps, calls_crossed}
use Rattle.metric_calls.specs.Memories.{Memory, remembered}
use Rattle.metric_calls.specs.ValueCalls.{keyed_int}
use Rattle.metric_calls.specs.SnapshotCalls.{is_told_of, truth_in, pull_calls, atom_calls}
use Rattle.metric_calls.specs.PulledValueCalls.{pulled_value_params, snap_ints, value_telling, pulled_value_asking}
use Rattle.metric_calls.proofs.CrossedLemmas.{ends_at-neighbours}
use Rattle.metric_calls.proofs.StepLemmas.{told_by-steps}
use Rattle.metric_calls.proofs.AskingsLemmas.{calls_of_step, calls-give}
use Rattle.metric_calls.proofs.MemoriesLemmas.{remembered-append, remembered-is, remembered-crossed}
use Rattle.metric_calls.proofs.SnapshotCallsLemmas.{truth_stays, untouched_truth, found_kept, truth_and, TakesTold, told_follows}

-- integers that were handed over are what they were
handed_ints : (integers : KeyedInts) → keyed_ints (map keyed_int integers) ≡ integers
handed_ints [] = refl
handed_ints (integer ∷ integers) = ap (λ others. integer ∷ others) (handed_ints integers)

-- so are those of a snapshot, if there is one
snap_ints-found : (found : Option KeyedInts) → integers_found (snap_ints found) ≡ found
snap_ints-found None = refl
snap_ints-found (Some integers) = ap (λ l. Some l) (handed_ints integers)

-- both tests of a truth say the same
pub same_truth : (truth : Truth) → is_truth truth ≡ is_true truth
same_truth False = refl
same_truth Unknown = refl
same_truth True = refl

-- nothing is so and not so
never_both : (b : Bool) → (b && not b) ≡ false
never_both true = refl
never_both false = refl

-- nothing, whether it is so or not
none_if : {A : Type 0} (b : Bool) → let none : List A = [] in (if b then none else none) ≡ none
none_if true = refl
none_if false = refl

-- the last snapshot takes the place of the one before
abbrev pub takes_snapshot : Option KeyedInts → SnapInts → Option KeyedInts
takes_snapshot was event = integers_found event

-- what a producer of pulled values remembers of calls: the condition that was told last, and the last snapshot
abbrev pub value_memory : Memory (Option Truth × Option KeyedInts) SnapInts Truth
value_memory = truth_and takes_snapshot

-- the snapshot that was told last is the one that is remembered
found_remembered : (truth : Option Truth) (found : Option KeyedInts) (calls : List PulledValueCall)
    → told_last found (flat_map snapshot_told calls) ≡ (remembered value_memory (truth, found) calls).1
found_remembered truth found [] = refl
found_remembered truth found (Got at event ∷ calls) = found_remembered truth (integers_found event) calls
found_remembered truth found (Learned at now ∷ calls) = found_remembered (Some now) found calls
found_remembered truth found (Crossed crossings ∷ calls) = found_remembered truth found calls
found_remembered truth found (CutAt at ∷ calls) = found_remembered truth found calls
found_remembered truth found (Took ∷ calls) = found_remembered truth found calls

-- and so is the condition
truth_remembered : (truth : Option Truth) (found : Option KeyedInts) (calls : List PulledValueCall)
    → told_last (unwrap_or truth Unknown) (flat_map truth_told calls)
    ≡ unwrap_or (remembered value_memory (truth, found) calls).0 Unknown
truth_remembered truth found [] = refl
truth_remembered truth found (Got at event ∷ calls) = truth_remembered truth (integers_found event) calls
truth_remembered truth found (Learned at now ∷ calls) = truth_remembered (Some now) found calls
truth_remembered truth found (Crossed crossings ∷ calls) = truth_remembered truth found calls
truth_remembered truth found (CutAt at ∷ calls) = truth_remembered truth found calls
truth_remembered truth found (Took ∷ calls) = truth_remembered truth found calls

-- what is remembered of calls, from the beginning
abbrev pub memory_of : List PulledValueCall → Option Truth × Option KeyedInts
memory_of calls = remembered value_memory (None, None) calls

-- a call that tells no condition leaves it
untold : (calls : List PulledValueCall) (call : PulledValueCall) → truth_told call ≡ []
    → is_told_true (calls ++ call ∷ []) ≡ is_told_true calls
untold calls call none =
    ap (λ told. is_truth (told_last Unknown told))
    (flat_map-append truth_told calls (call ∷ [])
    ∙ ap (λ l. flat_map truth_told calls ++ (l ++ [])) none
    ∙ append-nil (flat_map truth_told calls))

-- what a call begins, after others
abbrev begun_at : List PulledValueCall → PulledValueCall → List (Option KeyedInts)
begun_at before call = begun_at_boundaries before call ++ begun_by_call before call

-- the intervals that begin with parts at these times, after calls
abbrev begun_at_times : List PulledValueCall → List ℕ → List (Option KeyedInts)
begun_at_times before times = if is_told_true before then map (λ time. last_found before) times else []

-- a call that leaves the condition begins no interval by it
begins_none : (before : List PulledValueCall) (call : PulledValueCall)
    → is_told_true (before ++ call ∷ []) ≡ is_told_true before → begun_by_call before call ≡ []
begins_none before call same =
    let found = last_found (before ++ call ∷ []) in
    ap (λ truth. if truth && not (is_told_true before) then found ∷ [] else []) same
    ∙ ap (λ truth. if truth then found ∷ [] else []) (never_both (is_told_true before))

-- a crossing begins the intervals of its parts
crossing_begins : (before : List PulledValueCall) (start size first count : ℕ) (ends : List ℕ)
    → ends ≡ ends_from first size count
    → outputs_after begun_at before (crossing_of start size ends) ≡ begun_at_times before ends
crossing_begins before start size first zero ends are =
    subst (λ l. outputs_after begun_at before (crossing_of start size l) ≡ begun_at_times before l) (sym are)
    (sym (none_if (is_told_true before)))
crossing_begins before start size first (suc count) ends are =
    let others = ends_from (first + size) size count in
    let call : PulledValueCall = Crossed (record {
      start = start;
      first_end = first;
      full_buckets = length others;
      size = size;
    }) in
    subst (λ l. outputs_after begun_at before (crossing_of start size l) ≡ begun_at_times before l) (sym are)
    (append-nil (begun_at before call)
    ∙ ap (λ l. begun_at_boundaries before call ++ l)
    (begins_none before call (untold before call refl))
    ∙ append-nil (begun_at_boundaries before call)
    ∙ ap (λ n. begun_at_times before (ends_from first size (suc n))) (length-ends_from (first + size) size count))

-- a cut begins that of its part
cutting_begins : (before : List PulledValueCall) (size : ℕ) (include_current : Bool) (at : ℕ)
    → outputs_after begun_at before (cutting size include_current at)
    ≡ begun_at_times before (if include_current && nat_lt 0 size then at ∷ [] else [])
cutting_begins before size false at = sym (none_if (is_told_true before))
cutting_begins before size true at = by (nat_lt 0 size) where
  by : (sized : Bool)
      → outputs_after begun_at before (if sized then CutAt at ∷ [] else [])
      ≡ begun_at_times before (if sized then at ∷ [] else [])
  by false = sym (none_if (is_told_true before))
  by true =
      let call : PulledValueCall = CutAt at in
      append-nil (begun_at before call)
      ∙ ap (λ l. begun_at_boundaries before call ++ l)
      (begins_none before call (untold before call refl))
      ∙ append-nil (begun_at_boundaries before call)

module _ (installed : Installation) (metric : LMetric) (source : ValueLeaf) (spec : DiffSpec) where
  abbrev pub watch : Watch (Option KeyedInts)
  watch = watched_integers installed metric source

  -- what the steps up to some have left, as calls tell it
  abbrev pub stands_now : List Step → Option Truth × Option KeyedInts
  stands_now steps =
      (Some (truth_in (scene_after installed steps) metric), watch.found steps)

  -- what is told is taken as it is
  value_told : TakesTold (value_telling metric source) takes_snapshot
      (λ (found : Option (List Atom)). option_map (pulled_integers metric source) found)
  value_told = record {
    snapshot = λ was found. snap_ints-found (option_map (pulled_integers metric source) found);
    atom = λ was at truths truth. refl;
  }

  -- the calls of steps are remembered as what stands after the steps
  pub remembered_now : (steps : List Step)
      → memory_of (calls_by_steps (pulled_value_asking installed metric source spec) pulled_collecting steps)
      ≡ stands_now steps
  remembered_now =
      remembered-is (pulled_value_asking installed metric source spec) pulled_collecting value_memory (None, None)
      stands_now
      (told_follows (pulled_value_way installed metric source spec)
      (pulled_value_params installed.base metric spec) (value_telling metric source) installed metric takes_snapshot
      (λ (found : Option (List Atom)). option_map (pulled_integers metric source) found) value_told None)

  -- so they are once a frame's crossing came
  pub remembered_crossed : (before : List Step) (frame : LogFrame) (at : ℕ)
      → memory_of (calls_crossed (pulled_value_asking installed metric source spec) pulled_collecting before frame at)
      ≡ stands_now before
  remembered_crossed =
      remembered-crossed (pulled_value_asking installed metric source spec) pulled_collecting value_memory (None, None)
      stands_now
      (told_follows (pulled_value_way installed metric source spec)
      (pulled_value_params installed.base metric spec) (value_telling metric source) installed metric takes_snapshot
      (λ (found : Option (List Atom)). option_map (pulled_integers metric source) found) value_told None)

  -- what calls that are remembered so have found
  pub found_is : (calls : List PulledValueCall) (steps : List Step) → memory_of calls ≡ stands_now steps
      → last_found calls ≡ watch.found steps
  found_is calls steps is =
      found_remembered None None calls ∙ ap (λ (told : Option Truth × Option KeyedInts). told.1) is

  -- and whether the condition is true
  held_is : (calls : List PulledValueCall) (steps : List Step) → memory_of calls ≡ stands_now steps
      → is_told_true calls ≡ watch.holds steps
  held_is calls steps is =
      ap is_truth (truth_remembered None None calls
      ∙ ap (λ (told : Option Truth × Option KeyedInts). unwrap_or told.0 Unknown) is)
      ∙ same_truth (truth_in (scene_after installed steps) metric)

  -- what is seen after such calls is what is seen after the steps
  pub seen_is : (calls : List PulledValueCall) (steps : List Step) → memory_of calls ≡ stands_now steps
      → seen_after_calls calls ≡ seen_after watch steps
  seen_is calls steps is =
      ap (λ (holds : Bool). let seen : Seen (Option KeyedInts) = record { holds = holds; found = last_found calls } in
      seen) (held_is calls steps is)
      ∙ ap (λ (found : Option KeyedInts). let seen : Seen (Option KeyedInts) =
      record { holds = watch.holds steps; found = found } in seen) (found_is calls steps is)

  -- the intervals that begin with parts are the same
  times_are : (calls : List PulledValueCall) (steps : List Step) (times : List ℕ) → memory_of calls ≡ stands_now steps
      → begun_at_times calls times ≡ (if watch.holds steps then map (λ time. watch.found steps) times else [])
  times_are calls steps times is =
      ap (λ holds. if holds then map (λ time. last_found calls) times else []) (held_is calls steps is)
      ∙ ap (λ found. if watch.holds steps then map (λ time. found) times else []) (found_is calls steps is)

  -- what a frame's crossing begins
  crossed_begins : (before : List Step) (frame : LogFrame) (at : ℕ) (truths : List Bool)
      → let asking = pulled_value_asking installed metric source spec in
      let seen = told_by (steps_seen asking before) in
      let ends = ends_at installed.base metric.size (moments_told seen) (moment_of frame at) in
      outputs_after begun_at (calls_by_steps asking pulled_collecting before)
      (crossing_of (last_time installed.base (boundaries installed.base metric.size seen)) metric.size ends)
      ≡ begun_with_parts watch before (frame_step frame at truths)
  crossed_begins before frame at truths =
      let asking = pulled_value_asking installed metric source spec in
      let seen = told_by (steps_seen asking before) in
      let base = installed.base in
      let size = metric.size in
      let moment : Moment = moment_of frame at in
      let ends = ends_at base size (moments_told seen) moment in
      let are = ends_at-neighbours base size (moments_told seen) moment in
      let calls = calls_by_steps asking pulled_collecting before in
      let before_is : ends ≡ crossed_at base size before (frame_step frame at truths) =
      ap (λ told. ends_at base size told moment) (told_by-steps asking.news before)
      ∙ sym (append-nil (ends_at base size (moments before) moment)) in
      crossing_begins calls (last_time base (boundaries base size seen)) size are.first are.count ends are.are
      ∙ times_are calls before ends (remembered_now before)
      ∙ ap (λ times. if watch.holds before then map (λ time. watch.found before) times else []) before_is

  -- a step after which the condition stays begins no interval
  stays_begun : (before : List Step) (step : Step)
      → truth_in (scene_after installed (before ++ step ∷ [])) metric ≡ truth_in (scene_after installed before) metric
      → [] ≡ begun_by_step watch before step
  stays_begun before step stays =
      let found = watch.found (before ++ step ∷ []) in
      sym (ap (λ truth. begun_if watch (is_true truth && not (watch.holds before)) (before ++ step ∷ [])) stays
      ∙ ap (λ truth. if truth then found ∷ [] else []) (never_both (watch.holds before)))

  -- what is told of an atom begins what the atom itself begins
  atom_begins : (before : List Step) (at when : ℕ) (atom : Atom) (truths : List Bool) (calls : List PulledValueCall)
      → memory_of calls ≡ stands_now before → (touched : Bool)
      → is_touched installed.linked.predicates metric truths ≡ touched
      → let step = frame_step (AtomAt when atom) at truths in
      outputs_after begun_at calls (atom_calls (value_telling metric source) touched at
      (truth_in (scene_after installed (before ++ step ∷ [])) metric) truths)
      ≡ begun_by_step watch before step
  atom_begins before at when atom truths calls is false untouched =
      let step = frame_step (AtomAt when atom) at truths in
      stays_begun before step (untouched_truth installed metric before step untouched)
  atom_begins before at when atom truths calls is true touched =
      let step = frame_step (AtomAt when atom) at truths in
      let now = truth_in (scene_after installed (before ++ step ∷ [])) metric in
      let call : PulledValueCall = Learned at now in
      let after = calls ++ call ∷ [] in
      let told : memory_of after ≡ (Some now, watch.found before) =
      remembered-append value_memory (None, None) calls (call ∷ [])
      ∙ ap (λ was. remembered value_memory was (call ∷ [])) is in
      let stays = found_kept installed metric before step refl in
      let told_now : memory_of after ≡ stands_now (before ++ step ∷ []) =
      told ∙ ap (λ (f : Option (List Atom)). let both : Option Truth × Option KeyedInts =
      (Some now, option_map (pulled_integers metric source) f) in both) (sym stays) in
      append-nil (begun_at calls call)
      ∙ ap (λ l. l ++ begun_by_call calls call) (none_if (is_told_true calls))
      ∙ ap (λ truth. if truth && not (is_told_true calls) then last_found after ∷ [] else [])
      (held_is after (before ++ step ∷ []) told_now)
      ∙ ap (λ held. if watch.holds (before ++ step ∷ []) && not held then last_found after ∷ [] else [])
      (held_is calls before is)
      ∙ ap (λ found. if becomes_true watch before step then found ∷ [] else [])
      (found_is after (before ++ step ∷ []) told_now)

  -- what is asked at a frame begins what the frame itself begins
  asked_begins : (before : List Step) (frame : LogFrame) (at : ℕ) (truths : List Bool) (calls : List PulledValueCall)
      → memory_of calls ≡ stands_now before
      → outputs_after begun_at calls
      (asked_at (pulled_value_asking installed metric source spec) before frame at truths)
      ≡ begun_by_step watch before (frame_step frame at truths)
  asked_begins before (Tick when) at truths calls is =
      let step = frame_step (Tick when) at truths in
      stays_begun before step (truth_stays installed metric before step (λ predicate. refl))
  asked_begins before (AtomAt when atom) at truths calls is =
      atom_begins before at when atom truths calls is (is_touched installed.linked.predicates metric truths) refl
  asked_begins before (Pull when id outcome) at truths calls is =
      let step = frame_step (Pull when id outcome) at truths in
      by (is_told_of installed.linked.matchers metric id)
      ∙ stays_begun before step (truth_stays installed metric before step (λ predicate. refl)) where
        by : (told : Bool)
            → outputs_after begun_at calls (pull_calls (value_telling metric source) told at
            (snapshot_found installed metric (before ++ frame_step (Pull when id outcome) at truths ∷ [])))
            ≡ []
        by false = refl
        by true =
            let found =
            snapshot_found installed metric (before ++ frame_step (Pull when id outcome) at truths ∷ []) in
            let call : PulledValueCall = Got at ((value_telling metric source).snapshot found) in
            append-nil (begun_at calls call)
            ∙ ap (λ l. l ++ begun_by_call calls call) (none_if (is_told_true calls))
            ∙ begins_none calls call (untold calls call refl)

  -- what a step's calls begin is what the step begins
  step_begins : (before : List Step) (at : ℕ) (what : What) (truths : List Bool)
      → let step : Step = record { at = at; what = what; truths = truths } in
      let asking = pulled_value_asking installed metric source spec in
      outputs_after begun_at (calls_by_steps asking pulled_collecting before)
      (calls_of_step asking pulled_collecting before step)
      ≡ begun_with_parts watch before step ++ begun_by_step watch before step
  step_begins before at (Logged frame) truths =
      let asking = pulled_value_asking installed metric source spec in
      let told = told_by (steps_seen asking before) in
      let base = installed.base in
      let size = metric.size in
      let seen = calls_by_steps asking pulled_collecting before in
      let ends = ends_at base size (moments_told told) (moment_of frame at) in
      let crossed : List PulledValueCall = crossing_of (last_time base (boundaries base size told)) size ends in
      let asked = asked_at asking before frame at truths in
      outputs_after-append begun_at seen crossed asked
      ∙ ap (λ l. l ++ outputs_after begun_at (seen ++ crossed) asked) (crossed_begins before frame at truths)
      ∙ ap (λ l. begun_with_parts watch before (frame_step frame at truths) ++ l)
      (asked_begins before frame at truths (seen ++ crossed) (remembered_crossed before frame at))
  step_begins before at (Reported include_current) truths =
      let asking = pulled_value_asking installed metric source spec in
      let step : Step = record { at = at; what = Reported include_current; truths = truths } in
      let size = metric.size in
      let seen = calls_by_steps asking pulled_collecting before in
      let cut : List PulledValueCall = cutting size include_current at in
      let took : List PulledValueCall = Took ∷ [] in
      let starts = part_starts watch before step in
      outputs_after-append begun_at seen cut took
      ∙ ap (λ l. l ++ outputs_after begun_at (seen ++ cut) took)
      (cutting_begins seen size include_current at ∙ times_are seen before starts (remembered_now before))
      ∙ ap (λ l. begun_with_parts watch before step ++ l)
      (append-nil (begun_at (seen ++ cut) Took)
      ∙ ap (λ l. l ++ begun_by_call (seen ++ cut) Took) (none_if (is_told_true (seen ++ cut)))
      ∙ begins_none (seen ++ cut) Took (untold (seen ++ cut) Took refl)
      ∙ stays_begun before step (truth_stays installed metric before step (λ predicate. refl)))

  -- the opening calls begin an interval if the condition is true there
  opening_begins : outputs begun_at (pulled_value_asking installed metric source spec).opens
      ≡ begun_if watch (watch.holds []) []
  opening_begins =
      let truth = truth_in (scene_after installed []) metric in
      let snapshot = (value_telling metric source).snapshot (snapshot_found installed metric []) in
      by (is_truth truth) (integers_found snapshot)
      ∙ ap (λ holds. if holds then integers_found snapshot ∷ [] else []) (same_truth truth)
      ∙ ap (λ found. if watch.holds [] then found ∷ [] else [])
      (snap_ints-found (option_map (pulled_integers metric source) (snapshot_found installed metric []))) where
        by : (holds : Bool) (found : Option KeyedInts)
            → (if holds && true then found ∷ [] else []) ++ [] ≡ (if holds then found ∷ [] else [])
        by true found = refl
        by false found = refl

  -- all intervals that calls began are those that steps began
  begun_are : (steps : List Step)
      → begun_by_calls (calls_by_steps (pulled_value_asking installed metric source spec) pulled_collecting steps)
      ≡ all_begun watch steps
  begun_are steps =
      let begins : List Step → Step → List (Option KeyedInts) =
      λ before step. begun_with_parts watch before step ++ begun_by_step watch before step in
      calls-give (pulled_value_asking installed metric source spec) pulled_collecting begun_at begins
      (λ before step. step_begins before step.at step.what step.truths) steps
      ∙ ap (λ l. l ++ outputs begins steps) opening_begins

  -- the interval that is open is the same after all steps
  pub open_is : (steps : List Step)
      → open_by_calls (calls_by_steps (pulled_value_asking installed metric source spec) pulled_collecting steps)
      ≡ open_interval watch steps
  open_is steps =
      let calls = calls_by_steps (pulled_value_asking installed metric source spec) pulled_collecting steps in
      ap (λ holds. if holds then last_or None (begun_by_calls calls) else None)
      (held_is calls steps (remembered_now steps))
      ∙ ap (λ begun. if watch.holds steps then last_or None begun else None) (begun_are steps)

  -- and once a frame's crossing came
  pub open_crossed : (before : List Step) (frame : LogFrame) (at : ℕ) (truths : List Bool)
      → open_by_calls (calls_crossed
      (pulled_value_asking installed metric source spec) pulled_collecting before frame at)
      ≡ open_before watch before (frame_step frame at truths)
  open_crossed before frame at truths =
      let asking = pulled_value_asking installed metric source spec in
      let told = told_by (steps_seen asking before) in
      let base = installed.base in
      let size = metric.size in
      let seen = calls_by_steps asking pulled_collecting before in
      let ends = ends_at base size (moments_told told) (moment_of frame at) in
      let crossed : List PulledValueCall = crossing_of (last_time base (boundaries base size told)) size ends in
      ap (λ holds. if holds then last_or None (begun_by_calls (seen ++ crossed)) else None)
      (held_is (seen ++ crossed) before (remembered_crossed before frame at))
      ∙ ap (λ begun. if watch.holds before then last_or None begun else None)
      (outputs_after-append begun_at [] seen crossed
      ∙ ap (λ l. l ++ outputs_after begun_at seen crossed) (begun_are before)
      ∙ ap (λ l. all_begun watch before ++ l) (crossed_begins before frame at truths))
