-- What a step leaves as it is that does nothing to the inner keys of a duration: lemmas on
-- `specs/DurationSteps.antt`, for the proofs of lanes.
use Rattle.std.proofs.Common.{◌≡◌, ℕ, ◌-◌, Bool, true, false, not, ◌||◌, if◌then◌else◌, cond, List, [], ◌∷◌, ◌++◌, map, filter, replicate, refl, ap, ◌∙◌, arith}
use Rattle.std.specs.Prelude.{Decides}
use Rattle.std.specs.List.{flat_map, IsDistinct}
use Rattle.std.specs.Cmp.Lexicographic.{pointwise_decides}
use Rattle.std.proofs.lemmas.Grind.{flat_map-append}
use Rattle.std.proofs.lemmas.List.{append-nil}
use Rattle.atom_record.specs.Equal.{leaf_exact, metric_key_exact}
use Rattle.atom_record.specs.declared.value.MetricKey.{MetricKey}
use Rattle.bucket_meaning.specs.Guard.{is_among, firsts}
use Rattle.bucket_meaning.proofs.GuardLemmas.{firsts-distinct}
use Rattle.bucket_meaning.specs.Marks.{Mark, Came, Lost}
use Rattle.config_types.specs.declared.parameters.PredSpec.{PredSpec}
use Rattle.config_links.specs.declared.linked.LMetric.{LMetric}
use Rattle.predicate_state.specs.PredicateStates.{KeyEvent, PredicateState, predicate_after}
use Rattle.predicate_state.specs.PredicateTable.{LeafKey, same_leaves}
use Rattle.condition_links.specs.ThreeValues.{is_true}
use Rattle.metric_kinds.specs.Keys.{is_same_key}
use Rattle.metric_kinds.specs.Durations.{turned}
use Rattle.metric_meaning.specs.Histories.{Step, Installation}
use Rattle.metric_meaning.specs.Readings.{LeafReading}
use Rattle.metric_meaning.specs.PredicateSteps.{tables_after}
use Rattle.metric_meaning.specs.MetricConditions.{condition_truth}
use Rattle.metric_meaning.specs.DurationSteps.{keys_on, inner_events, measured, inner_after, inner_reading, inner_drops, out_key, is_timed, active_keys, gone_off, time_on, sum_news, longest_news}

-- two tests that are alike choose the same
filter_alike : {X : Type 0} (test other : X → Bool) (xs : List X) → ((x : X) → test x ≡ other x)
    → filter test xs ≡ filter other xs
filter_alike test other [] alike = refl
filter_alike test other (x ∷ xs) alike =
    ap (λ b. cond b (x ∷ filter test xs) (filter test xs)) (alike x)
    ∙ ap (λ l. cond (other x) (x ∷ l) l) (filter_alike test other xs alike)

-- two functions that are alike give the same
map_alike : {X Y : Type 0} (f g : X → Y) (xs : List X) → ((x : X) → f x ≡ g x) → map f xs ≡ map g xs
map_alike f g [] alike = refl
map_alike f g (x ∷ xs) alike = ap (λ y. y ∷ map f xs) (alike x) ∙ ap (λ l. g x ∷ l) (map_alike f g xs alike)

-- one of two, where the second is
or_later : (first second : Bool) → second ≡ true → (first || second) ≡ true
or_later true second is = refl
or_later false second is = is

-- of keys that are all there none is left out
none_left : {K : Type 0} (same : K → K → Bool) → ((x y : K) → Decides (same x y) (x ≡ y)) → (keys all : List K)
    → ((key : K) → is_among same key keys ≡ true → is_among same key all ≡ true)
    → filter (λ key. not (is_among same key all)) keys ≡ []
none_left same exact [] all there = refl
none_left {K} same exact (key ∷ keys) all there =
    let left : K → Bool = λ k. not (is_among same k all) in
    let itself : same key key ≡ true = (exact key key).1 refl in
    let here : is_among same key all ≡ true = there key (ap (λ b. b || is_among same key keys) itself) in
    ap (λ b. cond (not b) (key ∷ filter left keys) (filter left keys)) here
    ∙ none_left same exact keys all (λ k is. there k (or_later (same key k) (is_among same k keys) is))

-- a step after others that does nothing to the inner keys
module _ (installed : Installation) (metric : LMetric) (spec : PredSpec) (before : List Step) (step : Step)
    (idle : inner_events (measured installed metric) step ≡ []) where
  -- what is known of them stays
  pub inner_stays : inner_after installed metric spec (before ++ step ∷ []) ≡ inner_after installed metric spec before
  inner_stays =
      let events : Step → List (KeyEvent LeafKey) = inner_events (measured installed metric) in
      ap (predicate_after same_leaves spec)
      (flat_map-append events before (step ∷ [])
      ∙ ap (λ l. flat_map events before ++ l) (append-nil (events step) ∙ idle)
      ∙ append-nil (flat_map events before))

  -- none is turned away
  none_dropped : {X : Type 0} → (lost : List (Mark X)) → lost ≡ inner_drops installed metric spec before step
      → lost ≡ []
  none_dropped lost is =
      let dropped = (inner_after installed metric spec before).dropped in
      let same : (inner_after installed metric spec (before ++ step ∷ [])).dropped - dropped ≡ 0 =
      ap (λ (state : PredicateState LeafKey). state.dropped - dropped) inner_stays ∙ omega arith in
      is ∙ ap (λ n. replicate n Lost) same

  -- none goes off
  none_off : gone_off installed metric spec before step ≡ []
  none_off =
      let listed = keys_on (inner_after installed metric spec before) in
      ap (λ state. filter (λ key. not (is_among same_leaves key (keys_on state))) listed) inner_stays
      ∙ none_left same_leaves (pointwise_decides leaf_exact) listed listed (λ key is. is)

  -- a longest duration gets nothing
  pub no_longest : (longest_news installed metric spec).comes before step ≡ []
  no_longest =
      let came : LeafKey → Mark (MetricKey × ℕ) = λ key.
      Came (out_key installed metric before key, time_on installed metric spec before step.at key) in
      ap (λ lost. lost ++ map came (gone_off installed metric spec before step))
      (none_dropped (inner_drops installed metric spec before step) refl)
      ∙ ap (map came) none_off

  -- where the condition stays too, whoever asks
  module _ (stays : (reading : LeafReading)
      → condition_truth installed.linked.predicates (tables_after installed.linked.predicates (before ++ step ∷ []))
      metric reading
      ≡ condition_truth installed.linked.predicates (tables_after installed.linked.predicates before) metric reading)
    where
      -- the condition of each inner key is as it was
      pub timed_stays : (key : LeafKey)
          → is_timed installed metric (before ++ step ∷ []) key ≡ is_timed installed metric before key
      timed_stays key = ap is_true (stays (inner_reading installed metric key))

      -- the same keys are active, where the step leaves the keys for which inner keys count
      pub active_stays :
          ((key : LeafKey)
          → out_key installed metric (before ++ step ∷ []) key ≡ out_key installed metric before key)
          → active_keys installed metric spec (before ++ step ∷ []) ≡ active_keys installed metric spec before
      active_stays alike =
          let now = is_timed installed metric (before ++ step ∷ []) in
          let was = is_timed installed metric before in
          let out = out_key installed metric (before ++ step ∷ []) in
          let listed = keys_on (inner_after installed metric spec before) in
          ap (λ state. firsts is_same_key [] (map out (filter now (keys_on state)))) inner_stays
          ∙ ap (λ keys. firsts is_same_key [] (map out keys)) (filter_alike now was listed timed_stays)
          ∙ ap (firsts is_same_key [])
          (map_alike out (out_key installed metric before) (filter was listed) alike)

      -- then a sum of durations gets nothing
      pub no_sum :
          ((key : LeafKey)
          → out_key installed metric (before ++ step ∷ []) key ≡ out_key installed metric before key)
          → (sum_news installed metric spec).comes before step ≡ []
      no_sum alike =
          let was = active_keys installed metric spec before in
          ap (λ lost. lost ++ turned step.at was (active_keys installed metric spec (before ++ step ∷ [])))
          (none_dropped (inner_drops installed metric spec before step) refl)
          ∙ ap (turned step.at was) (active_stays alike)
          ∙ ap (λ b. if b then [] else Came (record { at = step.at; keys = was }) ∷ [])
          ((pointwise_decides metric_key_exact was was).1 refl)

-- of the active keys none stands twice
pub active-distinct : (installed : Installation) (metric : LMetric) (spec : PredSpec) (steps : List Step)
    → IsDistinct is_same_key (active_keys installed metric spec steps)
unfolding IsDistinct
active-distinct installed metric spec steps =
    firsts-distinct is_same_key []
    (map (out_key installed metric steps)
    (filter (is_timed installed metric steps) (keys_on (inner_after installed metric spec steps)))) tt
