-- What an atom leaves of the inner keys of a duration whose condition it doesn't touch; and where it doesn't touch the
-- metric at all, nor tells a state by which it is sliced, nothing is told.
use Rattle.std.proofs.Common.{◌≡◌, ℕ, Bool, true, false, ◌||◌, List, [], ◌∷◌, ◌++◌, length, slice_get, Option, Some, None, refl, sym, ap, subst, ◌∙◌, append_assoc, arith}
use Rattle.std.specs.Map.{keys_of}
use Rattle.std.proofs.lemmas.Grind.{flat_map-append}
use Rattle.std.proofs.lemmas.Option.{none-some}
use Rattle.atom_record.specs.declared.atom.Atom.{Atom}
use Rattle.atom_record.specs.declared.log.LogFrame.{LogFrame}
use Rattle.atom_record.specs.declared.log.LogFrame.TheVariants.{Tick, AtomAt, Pull}
use Rattle.atom_record.specs.declared.value.Slice.{Slice}
use Rattle.bucket_meaning.specs.Guard.{is_among}
use Rattle.config_types.specs.declared.parameters.PredSpec.{PredSpec}
use Rattle.config_links.specs.declared.linked.LMetric.{LMetric}
use Rattle.config_links.specs.declared.linked.LKind.TheVariants as kinds
use Rattle.config_links.specs.declared.linked.LPredicate.{LPredicate}
use Rattle.condition_links.specs.ThreeValues.{is_true}
use Rattle.predicate_state.specs.declared.truth.Truth.{Truth}
use Rattle.predicate_state.specs.PredicateStates.{PredicateState, KeyEvent}
use Rattle.predicate_state.specs.PredicateTruths.{agrees}
use Rattle.predicate_state.specs.PredicateTable.{LeafKey, same_leaves}
use Rattle.duration_metric.specs.declared.inner.Known.{Known}
use Rattle.metric_meaning.specs.Histories.{Logged, Step, Installation, frames_at, logged_frames, log_after}
use Rattle.metric_meaning.specs.ShownFrames.{shown_as}
use Rattle.metric_meaning.specs.PredicateSteps.{tables_after}
use Rattle.metric_meaning.specs.MetricConditions.{link_binds, condition_truth}
use Rattle.metric_meaning.specs.Readings.{LeafReading}
use Rattle.metric_meaning.specs.StateSlices.{named_slices}
use Rattle.metric_meaning.specs.DurationSteps.{inner_fields, measured, inner_reading}
use Rattle.metric_meaning.specs.Touched.{acts_below, names_atom_itself, timed_predicate, is_touched}
use Rattle.metric_meaning.proofs.TouchedLemmas.{neither, condition_stays}
use Rattle.metric_meaning.proofs.TouchedDurations.{untouched_inner}
use Rattle.metric_meaning.proofs.ApartLemmas.{condition_stays_apart}
use Rattle.metric_calls.specs.DurationCalls.{event_in, told_as, listed_after, known_after, told_after, inner_changes}
use Rattle.metric_calls.proofs.InnerChangesLemmas.{nothing_told}
use Rattle.metric_calls.proofs.InnerToldLemmas.{events_of, one_event, listed_told}
use Rattle.client_engine.specs.Telling.{decides_inner, TellsKey}
use Rattle.known_conditions.specs.Touchers.{tells_one}
use Rattle.client_engine.specs.Turning.{asks_for_turn, TurnsKey}
use Rattle.client_engine.specs.declared.told.Told.{Told}
use Rattle.client_engine.specs.declared.turn.Turn.{Turn}
use Rattle.client_engine.proofs.StatesStayLemmas.{slices_stay, slices_untold}
use Rattle.known_conditions.proofs.TouchersLemmas.{past_below}

-- a frame that is shown as an atom is that atom
pub shown_atom : (log : List LogFrame) (frame : LogFrame) (at : ℕ) (atom : Atom) → shown_as log frame ≡ AtomAt at atom
    → frame ≡ AtomAt at atom
shown_atom log (Tick when) at atom is = absurd cc
shown_atom log (AtomAt when other) at atom is = is
shown_atom log (Pull when id outcome) at atom is = absurd cc

-- the log with one frame more
log_on : (installed : Installation) (steps : List Step) (time : ℕ) (frame : LogFrame) (truths : List Bool)
    → let step : Step = record { at = time; what = Logged frame; truths = truths } in
    log_after installed (steps ++ step ∷ []) ≡ log_after installed steps ++ frame ∷ []
log_on installed steps time frame truths =
    let step : Step = record { at = time; what = Logged frame; truths = truths } in
    ap (λ (frames : List LogFrame). installed.opening ++ frames)
    (flat_map-append (λ (s : Step). frames_at s.what) steps (step ∷ []))
    ∙ sym (append_assoc installed.opening (logged_frames steps) (frame ∷ []))

module _ (installed : Installation) (metric : LMetric) (spec : PredSpec) (steps : List Step) (truths : List Bool)
    (time at : ℕ) (atom : Atom) where
  -- an atom, whatever time its step has
  abbrev step : Step
  step = record { at = time; what = Logged (AtomAt at atom); truths = truths }

  -- an atom that doesn't act below the condition leaves its truth: it doesn't touch a metric that has this condition,
  -- and times a predicate that isn't there
  condition_left : acts_below installed.linked.predicates truths metric.condition ≡ false → (reading : LeafReading)
      → condition_truth installed.linked.predicates
      (tables_after installed.linked.predicates (steps ++ step ∷ [])) metric
      reading
      ≡ condition_truth installed.linked.predicates (tables_after installed.linked.predicates steps) metric reading
  condition_left off reading =
      let predicates = installed.linked.predicates in
      let alone : LMetric = record metric { kind = kinds.SumDuration spec; what = length predicates } in
      condition_stays installed alone steps step
      (ap (λ b. b || acts_below predicates truths (Some (length predicates))) off
      ∙ past_below predicates truths (length predicates) (omega arith)) reading

  -- so the truth that is told of an inner key stays
  pub truth_left : acts_below installed.linked.predicates truths metric.condition ≡ false → (key : LeafKey)
      → (known_after installed metric (steps ++ step ∷ []) key).truth ≡ (known_after installed metric steps key).truth
  truth_left off key =
      ap (λ truth. told_as (is_true truth)) (condition_left off (inner_reading installed metric key))

  -- the truth of the condition of an inner key after some steps
  abbrev truth_after : List Step → LeafKey → Truth
  truth_after these key =
      condition_truth installed.linked.predicates (tables_after installed.linked.predicates these) metric
      (inner_reading installed metric key)

  -- the slices of an inner key by what a log gave
  abbrev slices_by : List LogFrame → LeafKey → List Slice
  slices_by log key =
      named_slices installed.linked.states log (inner_reading installed metric key) metric.slices

  -- the slices of an inner key stay
  abbrev SlicesStay : LeafKey → Type 0
  SlicesStay key =
      slices_by (log_after installed steps ++ AtomAt at atom ∷ []) key ≡ slices_by (log_after installed steps) key

  -- an atom that tells no state by which the metric is sliced leaves them
  none_told : tells_one installed.linked.states atom.id metric.slices ≡ false → (key : LeafKey) → SlicesStay key
  none_told untold key =
      slices_stay installed.linked.states (log_after installed steps) at atom (inner_reading installed metric key)
      metric.slices untold

  -- and all that is so of it stays, where its condition's truth does, and its slices
  known_alike : (key : LeafKey) → SlicesStay key
      → truth_after (steps ++ step ∷ []) key ≡ truth_after steps key
      → known_after installed metric (steps ++ step ∷ []) key ≡ known_after installed metric steps key
  known_alike key sliced alike =
      let reading = inner_reading installed metric key in
      let predicates = installed.linked.predicates in
      let now : Truth → List Slice → Known = λ truth slices. record {
        truth = told_as (is_true truth);
        out = record { dims = reading metric.dims; slices = slices };
      } in
      ap (λ truth. now truth (slices_by (log_after installed (steps ++ step ∷ [])) key)) alike
      ∙ ap (now (condition_truth predicates (tables_after predicates steps) metric reading))
      (ap (λ log. slices_by log key) (log_on installed steps time (AtomAt at atom) truths) ∙ sliced)

  -- so it does where the atom doesn't touch the condition
  pub known_stays : acts_below installed.linked.predicates truths metric.condition ≡ false
      → tells_one installed.linked.states atom.id metric.slices ≡ false → (key : LeafKey)
      → known_after installed metric (steps ++ step ∷ []) key ≡ known_after installed metric steps key
  known_stays off untold key =
      known_alike key (none_told untold key) (condition_left off (inner_reading installed metric key))

  -- where it tells the state of a key by which the inner key isn't sliced
  pub known_untold : (told : Told) → TellsKey installed.linked.states metric.slices atom told
      → acts_below installed.linked.predicates truths metric.condition ≡ false → (key : LeafKey)
      → decides_inner (inner_fields (measured installed metric)) key told ≡ false
      → known_after installed metric (steps ++ step ∷ []) key ≡ known_after installed metric steps key
  known_untold told tells off key apart =
      let reading = inner_reading installed metric key in
      known_alike key
      (slices_untold installed.linked.states (log_after installed steps) at atom reading metric.slices told tells apart)
      (condition_left off reading)

  -- and where it turns one key of the condition for which the inner key doesn't ask
  pub known_apart : (turn : Turn) → TurnsKey installed.linked.predicates metric truths atom turn
      → tells_one installed.linked.states atom.id metric.slices ≡ false → (key : LeafKey)
      → asks_for_turn (inner_fields (measured installed metric)) key turn ≡ false
      → known_after installed metric (steps ++ step ∷ []) key ≡ known_after installed metric steps key
  known_apart turn turns untold key apart =
      known_alike key (none_told untold key)
      (by (slice_get installed.linked.predicates turns.root) refl turns.acts) where
        event : KeyEvent LeafKey
        event = record { event = turns.event; key = turn.key }

        by : (found : Option LPredicate) → slice_get installed.linked.predicates turns.root ≡ found
            → event_in found truths atom ≡ Some (record { event = turns.event; key = turn.key })
            → truth_after (steps ++ step ∷ []) key ≡ truth_after steps key
        by None there acts = absurd (none-some _ acts)
        by (Some predicate) there acts =
            let reading = inner_reading installed metric key in
            condition_stays_apart installed.linked.predicates steps step metric reading turns.root predicate event
            turns.asks there (one_event (Some predicate) step ∙ ap events_of acts) turns.of_one
            (ap (λ link. agrees (link_binds reading link) turn.key) turns.linked ∙ apart)

  -- where the atom doesn't touch the metric at all, nothing changes of any
  pub nothing_changes : is_touched installed.linked.predicates metric truths ≡ false
      → tells_one installed.linked.states atom.id metric.slices ≡ false → timed_predicate metric ≡ Some metric.what
      → inner_changes installed metric spec steps step ≡ []
  nothing_changes untouched untold times =
      let predicates = installed.linked.predicates in
      let same = untouched_inner installed metric spec steps step times untouched in
      let off = (neither (acts_below predicates truths metric.condition)
      (acts_below predicates truths (timed_predicate metric))
      (neither (names_atom_itself metric truths) _ untouched).1).0 in
      nothing_told spec (told_after installed metric spec steps) (known_after installed metric (steps ++ step ∷ [])) 0
      (listed_after installed metric spec (steps ++ step ∷ []))
      (λ key among. listed_told installed metric spec steps key
      (subst (λ (s : PredicateState LeafKey). is_among same_leaves key (keys_of s.counts) ≡ true) same among)
      ∙ ap (λ (known : Known). Some known) (sym (known_stays off untold key)))
