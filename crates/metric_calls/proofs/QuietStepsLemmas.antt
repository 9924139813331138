-- Steps that aren't atoms leave what is so of inner keys: lemmas on `specs/DurationCalls.antt`, for proofs of
-- durations.
use Rattle.std.proofs.Common.{◌≡◌, ℕ, ℤ, Bool, not, ◌&&◌, List, [], ◌∷◌, ◌++◌, map, filter, Option, Some, None, if◌then◌else◌, refl, sym, ap, ◌∙◌, append_assoc, append-nil}
use Rattle.std.specs.List.{flat_map, last_or}
use Rattle.std.specs.Prelude.{slice_get}
use Rattle.std.proofs.lemmas.Grind.{flat_map-append}
use Rattle.atom_record.specs.declared.atom.Atom.{Atom}
use Rattle.atom_record.specs.declared.log.PullOutcome.{PullOutcome}
use Rattle.atom_record.specs.declared.log.LogFrame.{LogFrame}
use Rattle.atom_record.specs.declared.log.LogFrame.TheVariants.{Tick, Pull}
use Rattle.atom_record.specs.declared.value.Leaf.{Leaf}
use Rattle.atom_record.specs.declared.value.Slice.{Slice}
use Rattle.bucket_meaning.specs.Guard.{is_among, admitted}
use Rattle.book_meaning.specs.BookLimits.{most_state_ids, most_state_keys}
use Rattle.book_meaning.specs.Snapshots.{same_atom_id}
use Rattle.book_meaning.specs.States.{same_dims, no_state_known, puts_back, primary_key, state_atom_in, state_atoms, decides, state_by}
use Rattle.config_links.specs.declared.linked.LMetric.{LMetric}
use Rattle.config_links.specs.declared.linked.LPredicate.{LPredicate}
use Rattle.config_links.specs.declared.linked.LSlice.{LSlice}
use Rattle.config_links.specs.declared.linked.LState.{LState}
use Rattle.predicate_state.specs.PredicateTable.{LeafKey, PredicateTable}
use Rattle.state_slicer.specs.Slices.{slice_of}
use Rattle.duration_metric.specs.declared.inner.Known.{Known}
use Rattle.metric_meaning.specs.Histories.{Logged, Reported, Step, Installation, frames_at, logged_frames, log_after}
use Rattle.metric_meaning.specs.PredicateSteps.{events_at, tables_after}
use Rattle.metric_meaning.specs.MetricConditions.{is_condition_true}
use Rattle.metric_meaning.specs.Readings.{LeafReading}
use Rattle.metric_meaning.specs.StateSlices.{state_key, slice_by, named_slice, named_slices}
use Rattle.metric_meaning.specs.DurationSteps.{measured, inner_events, inner_reading}
use Rattle.metric_meaning.proofs.PredicateStepsLemmas.{tables_after-idle}
use Rattle.metric_calls.specs.DurationCalls.{told_as, known_after}

-- A step that does nothing to predicates and tells no state.
pub record IsQuiet (step : Step) : Type 0 where
  pub events : (predicate : LPredicate) → events_at predicate step ≡ []
  pub states : state_atoms (frames_at step.what) ≡ []

-- a step that is no atom is quiet
pub tick_quiet : (at when : ℕ) (truths : List Bool)
    → IsQuiet (record { at = at; what = Logged (Tick when); truths = truths })
tick_quiet at when truths = record { events = λ predicate. refl; states = refl }

pub pull_quiet : (at when id : ℕ) (outcome : PullOutcome) (truths : List Bool)
    → IsQuiet (record { at = at; what = Logged (Pull when id outcome); truths = truths })
pull_quiet at when id outcome truths = record { events = λ predicate. refl; states = refl }

pub report_quiet : (at : ℕ) (include_current : Bool) (truths : List Bool)
    → IsQuiet (record { at = at; what = Reported include_current; truths = truths })
report_quiet at include_current truths = record { events = λ predicate. refl; states = refl }

-- the state of a key of an id, by the state atoms of a log
abbrev value_by : ℕ → List Leaf → List Atom → ℤ
value_by id key atoms =
    if is_among same_dims key
    (if is_among same_atom_id id (admitted same_atom_id most_state_ids (map (λ (atom : Atom). atom.id) atoms))
    then admitted same_dims most_state_keys
    (map primary_key (filter (λ (atom : Atom). same_atom_id atom.id id && not (puts_back atom)) atoms))
    else [])
    then state_by (last_or None (filter (decides id key) atoms))
    else no_state_known

-- logs with the same state atoms have the same slices
slice_alike : (log other : List LogFrame) → state_atoms log ≡ state_atoms other → (found : Option LState)
    (key : List Leaf) → slice_by log found key ≡ slice_by other found key
slice_alike log other is None key = refl
slice_alike log other is (Some state) key =
    ap (λ atoms. slice_of state (value_by state.atom_id key atoms) ∷ []) is

slices_alike : (states : List LState) (log other : List LogFrame) (reading : LeafReading) (slices : List LSlice)
    → state_atoms log ≡ state_atoms other
    → named_slices states log reading slices ≡ named_slices states other reading slices
slices_alike states log other reading [] is = refl
slices_alike states log other reading (slice ∷ slices) is =
    ap (λ l. l ++ named_slices states log reading slices)
    (slice_alike log other is (slice_get states slice.state) (state_key slice.in_what reading))
    ∙ ap (λ l. named_slice states other reading slice ++ l) (slices_alike states log other reading slices is)

module _ (installed : Installation) (metric : LMetric) (before : List Step) (step : Step) where
  -- the log with one more step has the state atoms before it, where the step tells none
  log_states : state_atoms (frames_at step.what) ≡ []
      → state_atoms (log_after installed (before ++ step ∷ [])) ≡ state_atoms (log_after installed before)
  log_states none =
      let frames : Step → List LogFrame = λ (s : Step). frames_at s.what in
      let log = log_after installed before in
      ap (λ l. state_atoms (installed.opening ++ l))
      (flat_map-append frames before (step ∷ [])
      ∙ ap (λ l. logged_frames before ++ l) (append-nil (frames_at step.what)))
      ∙ ap state_atoms (sym (append_assoc installed.opening (logged_frames before) (frames_at step.what)))
      ∙ flat_map-append state_atom_in log (frames_at step.what)
      ∙ ap (λ l. state_atoms log ++ l) none ∙ append-nil (state_atoms log)

  -- what is so of an inner key stays, where what predicates know and the state atoms stay
  pub known_stays : tables_after installed.linked.predicates (before ++ step ∷ [])
      ≡ tables_after installed.linked.predicates before
      → state_atoms (frames_at step.what) ≡ [] → (key : LeafKey)
      → known_after installed metric (before ++ step ∷ []) key ≡ known_after installed metric before key
  known_stays tables none key =
      let reading = inner_reading installed metric key in
      let dims = reading metric.dims in
      let steps = before ++ step ∷ [] in
      let now : List PredicateTable → List Slice → Known = λ known slices. record {
        truth = told_as (is_condition_true installed.linked.predicates known metric reading);
        out = record { dims = dims; slices = slices };
      } in
      ap (λ known. now known
      (named_slices installed.linked.states (log_after installed steps) reading metric.slices)) tables
      ∙ ap (now (tables_after installed.linked.predicates before))
      (slices_alike installed.linked.states (log_after installed steps) (log_after installed before) reading
      metric.slices (log_states none))

  module _ (quiet : IsQuiet step) where
    -- so it is after a quiet step
    pub quiet_known : (key : LeafKey)
        → known_after installed metric (before ++ step ∷ []) key ≡ known_after installed metric before key
    quiet_known key =
        known_stays (tables_after-idle installed.linked.predicates before step quiet.events) quiet.states key

    -- which does nothing to inner keys
    pub quiet_inner : inner_events (measured installed metric) step ≡ []
    quiet_inner = of_found (measured installed metric) where
      of_found : (found : Option LPredicate) → inner_events found step ≡ []
      of_found None = refl
      of_found (Some predicate) = quiet.events predicate
