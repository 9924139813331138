-- What pulled metrics get: of a part by its intervals, and nothing at a step that doesn't touch them.
use Rattle.std.proofs.Common.{◌≡◌, ℕ, ℤ, Bool, true, false, not, ◌&&◌, ◌||◌, List, [], ◌∷◌, ◌++◌, Option, None, refl, sym, ap, ◌∙◌}
use Rattle.std.specs.Prelude.{map, if◌then◌else◌}
use Rattle.std.specs.List.{flat_map, last_or}
use Rattle.std.proofs.lemmas.List.{append-nil}
use Rattle.std.proofs.lemmas.List.Concat.{flat_map-append}
use Rattle.sd_base.specs.Outputs.{outputs, outputs_after}
use Rattle.atom_record.specs.declared.atom.Atom.{Atom}
use Rattle.atom_record.specs.declared.value.MetricKey.{MetricKey}
use Rattle.atom_record.specs.declared.log.LogFrame.TheVariants.{Tick, AtomAt, Pull}
use Rattle.field_select.specs.declared.leaf.FieldSet.{FieldSet}
use Rattle.config_types.specs.declared.parameters.DiffSpec.{DiffSpec}
use Rattle.config_types.specs.declared.parameters.Sampling.{Sampling}
use Rattle.config_types.specs.declared.parameters.Sampling.TheVariants.{AtStart, AtChange, AtTrigger}
use Rattle.config_links.specs.declared.linked.LMetric.{LMetric}
use Rattle.config_links.specs.declared.linked.LKind.TheVariants.{PulledGauge}
use Rattle.bucket_meaning.specs.Marks.{Mark}
use Rattle.condition_links.specs.ThreeValues.{is_true}
use Rattle.metric_kinds.specs.Intervals.{ended_with}
use Rattle.metric_kinds.specs.Diffs.{KeyedInts, interval_marks}
use Rattle.metric_kinds.specs.PulledSamples.{KeyedAtoms, sample_marks}
use Rattle.metric_meaning.specs.Histories.{What, Logged, Reported, Step, Installation, truth_at}
use Rattle.metric_meaning.specs.PredicateSteps.{named_truth}
use Rattle.metric_meaning.specs.ValueLeaves.{ValueLeaf}
use Rattle.metric_meaning.specs.StepMarks.{StepNews}
use Rattle.metric_meaning.specs.SnapshotSteps.{is_held, nothing_read}
use Rattle.metric_meaning.specs.PulledIntervals.{Watch, part_starts, begun_if, begun_by_step, becomes_true, begun_with_parts, all_begun, open_before, ended_by_step, ended_by_boundary}
use Rattle.metric_meaning.specs.PulledValueSteps.{watched_integers, pulled_value_news}
use Rattle.metric_meaning.specs.PulledGaugeSteps.{watched_samples, pulled_gauge_news, is_triggered, is_moment}
use Rattle.metric_meaning.specs.Touched.{names_atom_itself, is_touched}
use Rattle.metric_meaning.proofs.TouchedLemmas.{condition_stays}
use Rattle.metric_meaning.proofs.PulledIntervalsLemmas.{ended_in}

-- what steps give through lists of others
outputs_after-flat_map : {A B C : Type 0} (gives : B → List C) (outputs : List A → A → List B) (before xs : List A)
    → outputs_after (λ before x. flat_map gives (outputs before x)) before xs
    ≡ flat_map gives (outputs_after outputs before xs)
outputs_after-flat_map gives outputs before [] = refl
outputs_after-flat_map gives outputs before (x ∷ xs) =
    let others = outputs_after outputs (before ++ x ∷ []) xs in
    ap (λ l. flat_map gives (outputs before x) ++ l) (outputs_after-flat_map gives outputs (before ++ x ∷ []) xs)
    ∙ sym (flat_map-append gives (outputs before x) others)

module _ (spec : DiffSpec) (watch : Watch (Option KeyedInts)) where
  -- what pulled values get at these steps, after others, and at a boundary after them
  abbrev pub values_in : List Step → List Step → List (Mark (MetricKey × ℤ))
  values_in before steps =
      let news = pulled_value_news spec watch in
      outputs_after news.comes before steps ++ (news.edges (before ++ steps)).closing 0

  -- What pulled values get is what the intervals that end there give.
  pub values_of_part : (before steps : List Step)
      → values_in before steps ≡ flat_map (interval_marks spec) (ended_in watch before steps)
  values_of_part before steps =
      let gives = interval_marks spec in
      let last = ended_by_boundary watch (before ++ steps) in
      ap (λ l. l ++ flat_map gives last) (outputs_after-flat_map gives (ended_by_step watch) before steps)
      ∙ sym (flat_map-append gives (outputs_after (ended_by_step watch) before steps) last)

-- the same steps give the same
outputs_after-same : {A B : Type 0} (gives others : List A → A → List B)
    → ((before : List A) (x : A) → gives before x ≡ others before x)
    → (before xs : List A) → outputs_after gives before xs ≡ outputs_after others before xs
outputs_after-same gives others same before [] = refl
outputs_after-same gives others same before (x ∷ xs) =
    ap (λ l. l ++ outputs_after gives (before ++ x ∷ []) xs) (same before x)
    ∙ ap (λ l. others before x ++ l) (outputs_after-same gives others same (before ++ x ∷ []) xs)

module _ (trigger : Option ℕ) (watch : Watch (Option KeyedAtoms)) where
  abbrev news : StepNews (MetricKey × Atom)
  news = pulled_gauge_news AtStart trigger watch

  -- what one interval that begins gives
  if_begun : (begins : Bool) (found : Option KeyedAtoms)
      → (if begins then sample_marks found else []) ≡ flat_map sample_marks (if begins then found ∷ [] else [])
  if_begun true found = sym (append-nil (sample_marks found))
  if_begun false found = refl

  -- what parts that begin give
  with_parts : (held : Bool) (found : Option KeyedAtoms) (starts : List ℕ)
      → flat_map (λ start. if held then sample_marks found else []) starts
      ≡ flat_map sample_marks (if held then map (λ start. found) starts else [])
  with_parts true found [] = refl
  with_parts true found (start ∷ starts) = ap (λ l. sample_marks found ++ l) (with_parts true found starts)
  with_parts false found [] = refl
  with_parts false found (start ∷ starts) = with_parts false found starts

  -- what a gauge that samples where intervals begin gets at a step: where parts begin, and by the step itself
  abbrev pub samples_at : List Step → Step → List (Mark (MetricKey × Atom))
  samples_at before step =
      flat_map (λ start. (news.edges before).opening start) (part_starts watch before step) ++ news.comes before step

  -- What it gets up to these steps are the samples of all intervals that have begun, each at its beginning.
  pub samples_of_beginnings : (steps : List Step)
      → news.begins ++ outputs samples_at steps ≡ flat_map sample_marks (all_begun watch steps)
  samples_of_beginnings steps =
      let first = begun_if watch (watch.holds []) [] in
      let begun : List Step → Step → List (Option KeyedAtoms) =
      λ before step. begun_with_parts watch before step ++ begun_by_step watch before step in
      let at_step : (before : List Step) (step : Step)
      → samples_at before step ≡ flat_map sample_marks (begun before step) =
      λ before step.
      ap (λ l. l ++ news.comes before step)
      (with_parts (watch.holds before) (watch.found before) (part_starts watch before step))
      ∙ ap (λ l. flat_map sample_marks (begun_with_parts watch before step) ++ l)
      (if_begun (becomes_true watch before step) (watch.found (before ++ step ∷ [])))
      ∙ sym (flat_map-append sample_marks (begun_with_parts watch before step) (begun_by_step watch before step)) in
      ap (λ l. l ++ outputs samples_at steps) (if_begun (watch.holds []) (watch.found []))
      ∙ ap (λ l. flat_map sample_marks first ++ l)
      (outputs_after-same samples_at (λ before step. flat_map sample_marks (begun before step)) at_step [] steps
      ∙ outputs_after-flat_map sample_marks begun [] steps)
      ∙ sym (flat_map-append sample_marks first (outputs begun steps))

-- neither of two
neither : (one other : Bool) → (one || other) ≡ false → (one ≡ false) × (other ≡ false)
neither false other e = (refl, e)
neither true other e = absurd cc

-- nothing is so and not so
never : (b : Bool) → (b && not b) ≡ false
never true = refl
never false = refl

module _ {S : Type 0} (watch : Watch S) (before : List Step) (step : Step)
    (stays : watch.holds (before ++ step ∷ []) ≡ watch.holds before) where
  -- a condition that stays hasn't become true
  stays_untrue : becomes_true watch before step ≡ false
  stays_untrue = ap (λ now. now && not (watch.holds before)) stays ∙ never (watch.holds before)

  -- and no interval ends by the step
  nothing_ends : ended_by_step watch before step ≡ []
  nothing_ends =
      let held = watch.holds before in
      let found = watch.found (before ++ step ∷ []) in
      let opened = open_before watch before step in
      ap (λ now. if now then [] else ended_with opened found) stays
      ∙ by held (last_or None (all_begun watch before ++ begun_with_parts watch before step)) found where
        by : (held : Bool) (last : Option S) (found : S)
            → (if held then [] else ended_with (if held then last else None) found) ≡ []
        by true last found = refl
        by false last found = refl

-- after a step that doesn't touch a pulled metric its condition is true or not as before
held_stays : (installed : Installation) (metric : LMetric) (before : List Step) (step : Step)
    → is_touched installed.linked.predicates metric step.truths ≡ false
    → is_held installed metric (before ++ step ∷ []) ≡ is_held installed metric before
held_stays installed metric before step untouched =
    ap is_true (condition_stays installed metric before step untouched nothing_read)

-- A step that doesn't touch a metric of pulled values brings it nothing.
pub no_value_comes : (installed : Installation) (metric : LMetric) (source : ValueLeaf) (spec : DiffSpec)
    (before : List Step) (step : Step)
    → is_touched installed.linked.predicates metric step.truths ≡ false
    → (pulled_value_news spec (watched_integers installed metric source)).comes before step ≡ []
no_value_comes installed metric source spec before step untouched =
    ap (flat_map (interval_marks spec))
    (nothing_ends (watched_integers installed metric source) before step
    (held_stays installed metric before step untouched))

-- a trigger that doesn't hold is none
not_triggered : (trigger : Option ℕ) (at : ℕ) (what : What) (truths : List Bool)
    → named_truth trigger truths ≡ false
    → is_triggered trigger (record { at = at; what = what; truths = truths }) ≡ false
not_triggered trigger at (Logged (AtomAt when atom)) truths e = e
not_triggered trigger at (Logged (Tick when)) truths e = refl
not_triggered trigger at (Logged (Pull when id outcome)) truths e = refl
not_triggered trigger at (Reported include_current) truths e = refl

-- a step at which the condition stays and the trigger doesn't hold is no moment
no_moment : (mode : Sampling) (trigger : Option ℕ) (watch : Watch (Option KeyedAtoms)) (before : List Step)
    (step : Step) → watch.holds (before ++ step ∷ []) ≡ watch.holds before
    → named_truth trigger step.truths ≡ false → is_moment mode trigger watch before step ≡ false
no_moment AtStart trigger watch before step stays e = stays_untrue watch before step stays
no_moment AtChange trigger watch before step stays e = stays_untrue watch before step stays
no_moment AtTrigger trigger watch before step stays e =
    ap (λ triggered. triggered && watch.holds (before ++ step ∷ []))
    (not_triggered trigger step.at step.what step.truths e)

-- A step that doesn't touch a pulled gauge brings it nothing.
pub no_sample_comes : (installed : Installation) (metric : LMetric) (fields : Option FieldSet) (samples : ℕ)
    (mode : Sampling) (trigger : Option ℕ) (before : List Step) (step : Step)
    → metric.kind ≡ PulledGauge fields samples mode trigger
    → is_touched installed.linked.predicates metric step.truths ≡ false
    → (pulled_gauge_news mode trigger (watched_samples installed metric fields)).comes before step ≡ []
no_sample_comes installed metric fields samples mode trigger before step is untouched =
    let watch = watched_samples installed metric fields in
    let truths = step.truths in
    let named = ap (λ kind. names_atom_itself (record metric { kind = kind }) truths) is in
    let itself = (neither (names_atom_itself metric truths) _ untouched).0 in
    let untriggered = (neither (truth_at metric.what truths) (named_truth trigger truths) (sym named ∙ itself)).1 in
    ap (λ samples_now. if samples_now then sample_marks (watch.found (before ++ step ∷ [])) else [])
    (no_moment mode trigger watch before step (held_stays installed metric before step untouched) untriggered)
