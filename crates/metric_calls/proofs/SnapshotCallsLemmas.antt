-- What a pulled metric tells follows its steps: lemmas on `specs/SnapshotCalls.antt`, for proofs of kinds and of
-- instances.
use Rattle.std.proofs.Common.{◌≡◌, ℕ, ◌==◌, Bool, true, false, ◌&&◌, List, [], ◌∷◌, ◌++◌, map, Option, Some, None, refl, sym, ap, subst, ◌∙◌, ⊎_elim}
use Rattle.std.specs.Option.{option_and_then, option_map_or}
use Rattle.std.proofs.lemmas.Bool.{cases_Bool, true≢false}
use Rattle.std.proofs.lemmas.Bool.Decides.{Decides-eqb}
use Rattle.atom_record.specs.declared.atom.Atom.{Atom}
use Rattle.atom_record.specs.declared.log.LogFrame.{LogFrame}
use Rattle.atom_record.specs.declared.log.LogFrame.TheVariants.{Tick, AtomAt, Pull}
use Rattle.atom_record.specs.declared.log.PullOutcome.{PullOutcome}
use Rattle.atom_record.specs.Pulled.{is_pull_id}
use Rattle.config_types.specs.declared.matcher.SimpleMatcher.{SimpleMatcher}
use Rattle.matcher_eval.specs.AtomTests.{number_set}
use Rattle.config_links.specs.declared.linked.LMetric.{LMetric}
use Rattle.config_links.specs.declared.linked.LPredicate.{LPredicate}
use Rattle.predicate_state.specs.declared.truth.Truth.{Truth}
use Rattle.metric_producer.specs.Calls.{Got}
use Rattle.metric_meaning.specs.Histories.{What, Logged, Reported, Step, Installation, log_after}
use Rattle.metric_meaning.specs.PredicateSteps.{events_at}
use Rattle.metric_meaning.specs.Scenes.{scene_after}
use Rattle.metric_meaning.specs.MetricConditions.{condition_truth}
use Rattle.metric_meaning.specs.SnapshotSteps.{pulled_matcher, atoms_pulled, snapshot_found, nothing_read}
use Rattle.metric_meaning.specs.Touched.{is_touched}
use Rattle.metric_meaning.specs.Ways.{Way}
use Rattle.metric_meaning.proofs.PredicateStepsLemmas.{tables_after-idle}
use Rattle.metric_meaning.proofs.SnapshotStepsLemmas.{IsNoPullOf, found-stays, found-unpulled}
use Rattle.metric_meaning.proofs.TouchedLemmas.{condition_stays}
use Rattle.metric_calls.specs.Askings.{frame_step}
use Rattle.metric_calls.specs.Memories.{Memory, remembered, Follows}
use Rattle.metric_calls.specs.SnapshotCalls.{means_pull, is_told_of, truth_in, Telling, pull_calls, atom_calls, told_asking}

-- of two truths the second isn't so, where the first is and both aren't
second_not : (first second : Bool) → first ≡ true → (first && second) ≡ false → second ≡ false
second_not true second is not_both = not_both
second_not false second is not_both = absurd cc

module _ (installed : Installation) (metric : LMetric) where
  -- the condition stays after a step that does nothing to predicates
  pub truth_stays : (before : List Step) (step : Step) → ((predicate : LPredicate) → events_at predicate step ≡ [])
      → truth_in (scene_after installed (before ++ step ∷ [])) metric ≡ truth_in (scene_after installed before) metric
  truth_stays before step idle =
      ap (λ tables. condition_truth installed.linked.predicates tables metric nothing_read)
      (tables_after-idle installed.linked.predicates before step idle)

  -- and after one that doesn't touch the metric
  pub untouched_truth : (before : List Step) (step : Step)
      → is_touched installed.linked.predicates metric step.truths ≡ false
      → truth_in (scene_after installed (before ++ step ∷ [])) metric ≡ truth_in (scene_after installed before) metric
  untouched_truth before step untouched = condition_stays installed metric before step untouched nothing_read

  -- what is told of a step's pull, if it is one
  abbrev pub tells_pull : What → Bool
  tells_pull (Logged (Pull at id outcome)) = is_told_of installed.linked.matchers metric id
  tells_pull _ = false

  -- what a simple matcher finds stays after a pull that isn't told
  not_told : (matcher : SimpleMatcher) → pulled_matcher installed.linked.matchers metric ≡ Some matcher
      → (before : List Step) (step : Step) (at id : ℕ) (outcome : PullOutcome)
      → step.what ≡ Logged (Pull at id outcome) → means_pull id matcher ≡ false
      → snapshot_found installed metric (before ++ step ∷ []) ≡ snapshot_found installed metric before
  not_told matcher is before step at id outcome what not_meant = ⊎_elim
      (λ (same : (id == number_set matcher.atom_id) ≡ true).
      found-unpulled installed metric matcher is before step at id outcome what
      (second_not (id == number_set matcher.atom_id) (is_pull_id id) same not_meant))
      (λ (differ : (id == number_set matcher.atom_id) ≡ false).
      found-stays installed metric matcher is before step
      (subst (IsNoPullOf (number_set matcher.atom_id)) (sym what)
      (λ same. true≢false (sym ((Decides-eqb id (number_set matcher.atom_id)).1 same) ∙ differ))))
      (cases_Bool (id == number_set matcher.atom_id))

  -- so it does after a step at which no pull is told
  found_by : (matcher : Option SimpleMatcher) → pulled_matcher installed.linked.matchers metric ≡ matcher
      → (before : List Step) (at : ℕ) (what : What) (truths : List Bool) → tells_pull what ≡ false
      → let step : Step = record { at = at; what = what; truths = truths } in
      snapshot_found installed metric (before ++ step ∷ []) ≡ snapshot_found installed metric before
  found_by None is before at what truths none =
      let step : Step = record { at = at; what = what; truths = truths } in
      ap (option_and_then (atoms_pulled (log_after installed (before ++ step ∷ [])))) is
      ∙ sym (ap (option_and_then (atoms_pulled (log_after installed before))) is)
  found_by (Some matcher) is before at (Logged (Tick when)) truths none =
      found-stays installed metric matcher is before (record { at = at; what = Logged (Tick when); truths = truths }) tt
  found_by (Some matcher) is before at (Logged (AtomAt when atom)) truths none =
      found-stays installed metric matcher is before
      (record { at = at; what = Logged (AtomAt when atom); truths = truths }) tt
  found_by (Some matcher) is before at (Reported include_current) truths none =
      found-stays installed metric matcher is before
      (record { at = at; what = Reported include_current; truths = truths }) tt
  found_by (Some matcher) is before at (Logged (Pull when id outcome)) truths none =
      not_told matcher is before (record { at = at; what = Logged (Pull when id outcome); truths = truths }) when id
      outcome refl
      (sym (ap (λ (m : Option SimpleMatcher). option_map_or (means_pull id) m false) is) ∙ none)

  -- what is found stays after a step at which no pull is told
  pub found_kept : (before : List Step) (step : Step) → tells_pull step.what ≡ false
      → snapshot_found installed metric (before ++ step ∷ []) ≡ snapshot_found installed metric before
  found_kept before step none =
      found_by (pulled_matcher installed.linked.matchers metric) refl before step.at step.what step.truths none

-- what a producer remembers that is told the condition, besides what it remembers of events
abbrev pub truth_and : {Event S : Type 0} → (S → Event → S) → Memory (Option Truth × S) Event Truth
truth_and takes = record {
  gets = λ told at event. (told.0, takes told.1 event);
  learns = λ told at now. (Some now, told.1);
}

-- `takes` is what a producer remembers of an event, and `shows` of what is found; of what is told of an atom
-- besides its condition it remembers nothing.
pub record TakesTold {Event S : Type 0} (telling : Telling Event) (takes : S → Event → S)
    (shows : Option (List Atom) → S) : Type 0 where
  pub snapshot : (was : S) (found : Option (List Atom)) → takes was (telling.snapshot found) ≡ shows found
  pub atom : (was : S) (at : ℕ) (truths : List Bool) (truth : Option Truth)
      → remembered (truth_and takes) (truth, was) (map (λ event. Got at event) (telling.atom truths))
      ≡ (truth, was)

module _ {Params Event X K C R S : Type 0} (way : Way X K C R) (params : Params) (telling : Telling Event)
    (installed : Installation) (metric : LMetric) (takes : S → Event → S) (shows : Option (List Atom) → S)
    (told : TakesTold telling takes shows) where
  -- what stands after steps, as the producer remembers it
  abbrev pub told_now : List Step → Option Truth × S
  told_now steps =
      (Some (truth_in (scene_after installed steps) metric), shows (snapshot_found installed metric steps))

  -- a step that leaves both leaves what stands
  now_stays : (before : List Step) (step : Step)
      → truth_in (scene_after installed (before ++ step ∷ [])) metric ≡ truth_in (scene_after installed before) metric
      → snapshot_found installed metric (before ++ step ∷ []) ≡ snapshot_found installed metric before
      → told_now (before ++ step ∷ []) ≡ told_now before
  now_stays before step truth found =
      ap (λ (t : Truth). let both : Option Truth × S =
      (Some t, shows (snapshot_found installed metric (before ++ step ∷ []))) in both) truth
      ∙ ap (λ (f : Option (List Atom)). let both : Option Truth × S =
      (Some (truth_in (scene_after installed before) metric), shows f) in both) found

  -- what a pull makes of it, told or not
  pull_makes : (before : List Step) (at when id : ℕ) (outcome : PullOutcome) (truths : List Bool) (is_told : Bool)
      → is_told_of installed.linked.matchers metric id ≡ is_told
      → let step = frame_step (Pull when id outcome) at truths in
      remembered (truth_and takes) (told_now before)
      (pull_calls telling is_told at (snapshot_found installed metric (before ++ step ∷ [])))
      ≡ told_now (before ++ step ∷ [])
  pull_makes before at when id outcome truths true is =
      let step = frame_step (Pull when id outcome) at truths in
      let found = snapshot_found installed metric (before ++ step ∷ []) in
      let truth = truth_in (scene_after installed before) metric in
      ap (λ (s : S). let both : Option Truth × S = (Some truth, s) in both)
      (told.snapshot (shows (snapshot_found installed metric before)) found)
      ∙ ap (λ (t : Truth). let both : Option Truth × S = (Some t, shows found) in both)
      (sym (truth_stays installed metric before step (λ predicate. refl)))
  pull_makes before at when id outcome truths false is =
      let step = frame_step (Pull when id outcome) at truths in
      sym (now_stays before step (truth_stays installed metric before step (λ predicate. refl))
      (found_kept installed metric before step is))

  -- what an atom makes of it, told or not
  atom_makes : (before : List Step) (at when : ℕ) (atom : Atom) (truths : List Bool) (touched : Bool)
      → is_touched installed.linked.predicates metric truths ≡ touched
      → let step = frame_step (AtomAt when atom) at truths in
      remembered (truth_and takes) (told_now before)
      (atom_calls telling touched at (truth_in (scene_after installed (before ++ step ∷ [])) metric) truths)
      ≡ told_now (before ++ step ∷ [])
  atom_makes before at when atom truths true is =
      let step = frame_step (AtomAt when atom) at truths in
      let now = truth_in (scene_after installed (before ++ step ∷ [])) metric in
      told.atom (shows (snapshot_found installed metric before)) at truths (Some now)
      ∙ ap (λ (f : Option (List Atom)). let both : Option Truth × S = (Some now, shows f) in both)
      (sym (found_kept installed metric before step refl))
  atom_makes before at when atom truths false is =
      let step = frame_step (AtomAt when atom) at truths in
      sym (now_stays before step (untouched_truth installed metric before step is)
      (found_kept installed metric before step refl))

  -- what is told makes of it what stands after the step
  pub told_follows : (first : S)
      → Follows (told_asking way params telling installed metric) (truth_and takes) (None, first) told_now
  told_follows first = record {
    opens = ap (λ (s : S). let both : Option Truth × S = (Some (truth_in (scene_after installed []) metric), s) in both)
        (told.snapshot first (snapshot_found installed metric []));
    at_frame = λ before frame at truths. by before at truths frame;
    at_report = λ before at include_current truths.
        let step : Step = record { at = at; what = Reported include_current; truths = truths } in
        now_stays before step (truth_stays installed metric before step (λ predicate. refl))
        (found_kept installed metric before step refl);
  } where
    by : (before : List Step) (at : ℕ) (truths : List Bool) (frame : LogFrame)
        → remembered (truth_and takes) (told_now before)
        ((told_asking way params telling installed metric).news before (frame_step frame at truths))
        ≡ told_now (before ++ frame_step frame at truths ∷ [])
    by before at truths (Tick when) =
        let step = frame_step (Tick when) at truths in
        sym (now_stays before step (truth_stays installed metric before step (λ predicate. refl))
        (found_kept installed metric before step refl))
    by before at truths (AtomAt when atom) =
        atom_makes before at when atom truths (is_touched installed.linked.predicates metric truths) refl
    by before at truths (Pull when id outcome) =
        pull_makes before at when id outcome truths (is_told_of installed.linked.matchers metric id) refl
