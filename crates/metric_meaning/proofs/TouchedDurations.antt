-- What a step that doesn't touch a duration leaves as it is: its inner keys, and what it gets, where states leave the
-- keys for which inner keys count.
use Rattle.std.proofs.Common.{◌≡◌, inl, false, List, [], ◌∷◌, ◌++◌, Option, Some, None, refl, sym, ap, ◌∙◌}
use Rattle.std.specs.Option.{option_map_or}
use Rattle.std.specs.List.{flat_map}
use Rattle.config_types.specs.declared.parameters.PredSpec.{PredSpec}
use Rattle.config_links.specs.declared.linked.LMetric.{LMetric}
use Rattle.config_links.specs.declared.linked.LPredicate.{LPredicate}
use Rattle.config_links.specs.declared.linked.LSlice.{LSlice}
use Rattle.predicate_state.specs.PredicateTable.{LeafKey}
use Rattle.metric_meaning.specs.Histories.{Step, Installation}
use Rattle.metric_meaning.specs.StateSlices.{named_slice}
use Rattle.metric_meaning.specs.Scenes.{scene_after}
use Rattle.metric_meaning.specs.DurationSteps.{inner_events, measured, inner_reading, out_key, inner_after, sum_news, longest_news}
use Rattle.metric_meaning.specs.Touched.{acts_on, acts_below, names_atom_itself, timed_predicate, is_touched}
use Rattle.metric_meaning.proofs.TouchedLemmas.{neither, step_idle, not_acting, condition_stays}
use Rattle.metric_meaning.proofs.DurationStepsLemmas.{inner_stays, no_longest, no_sum}

-- a step does nothing to the keys of a predicate on which it doesn't act
found_idle : (found : Option LPredicate) (step : Step) → option_map_or (acts_on step.truths) found false ≡ false
    → inner_events found step ≡ []
found_idle None step off = refl
found_idle (Some predicate) step off = step_idle predicate step.at step.what step.truths off

-- a metric that isn't sliced by states has the same key for what is read, whatever they are
pub out_key_stays : (installed : Installation) (metric : LMetric) (before steps : List Step)
    → metric.slices ≡ [] → (key : LeafKey)
    → out_key installed metric steps key ≡ out_key installed metric before key
out_key_stays installed metric before steps none key =
    let reading = inner_reading installed metric key in
    let shown : List Step → List LSlice → _ = λ these slices.
    flat_map (named_slice installed.linked.states (scene_after installed these).log reading) slices in
    ap (λ s. record { dims = reading metric.dims; slices = s })
    (ap (shown steps) none ∙ sym (ap (shown before) none))

-- of a duration: the predicate that it times is its `what`
module _ (installed : Installation) (metric : LMetric) (spec : PredSpec) (before : List Step) (step : Step)
    (times : timed_predicate metric ≡ Some metric.what)
    (untouched : is_touched installed.linked.predicates metric step.truths ≡ false) where
  -- nothing happens to its inner keys
  pub untouched_idle : inner_events (measured installed metric) step ≡ []
  untouched_idle =
      let predicates = installed.linked.predicates in
      let condition = acts_below predicates step.truths metric.condition in
      let timed = acts_below predicates step.truths (timed_predicate metric) in
      let others = (neither (names_atom_itself metric step.truths) _ untouched).1 in
      let off = (neither condition timed others).1 in
      found_idle (measured installed metric) step
      (not_acting predicates step.truths metric.what metric.what
      (sym (ap (acts_below predicates step.truths) times) ∙ off) (inl refl))

  -- what is known of them stays
  pub untouched_inner :
      inner_after installed metric spec (before ++ step ∷ []) ≡ inner_after installed metric spec before
  untouched_inner = inner_stays installed metric spec before step untouched_idle

  -- a longest duration gets nothing
  pub untouched_longest : (longest_news installed metric spec).comes before step ≡ []
  untouched_longest = no_longest installed metric spec before step untouched_idle

  -- nor does a sum of durations, where states leave the keys for which inner keys count
  pub untouched_sum :
      ((key : LeafKey)
      → out_key installed metric (before ++ step ∷ []) key ≡ out_key installed metric before key)
      → (sum_news installed metric spec).comes before step ≡ []
  untouched_sum =
      no_sum installed metric spec before step untouched_idle
      (condition_stays installed metric before step untouched)
