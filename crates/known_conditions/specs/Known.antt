-- What a contract sees of a configuration's predicates, and what they know after which steps.
use Rattle.std.specs.Prelude.{◌≡◌, Bool, List, [], ◌∷◌, ◌++◌, slice_get}
use Rattle.config_links.specs.declared.linked.LMetric.{LMetric}
use Rattle.config_links.specs.declared.linked.LPredicate.{LPredicate}
use Rattle.predicate_state.specs.declared.truth.Truth.{Truth}
use Rattle.predicate_state.specs.PredicateTable.{PredicateTable, LeafKey}
use Rattle.report_writer.specs.declared.tree.Drop64.{Drop64}
use Rattle.metric_meaning.specs.Histories.{Step, Logged}
use Rattle.metric_meaning.specs.MetricConditions.{condition_truth, is_condition_true}
use Rattle.metric_meaning.specs.PredicateSteps.{tables_after, drop_above_zero}
use Rattle.metric_meaning.specs.Readings.{LeafReading, key_reading}
use Rattle.atom_record.specs.declared.log.LogFrame.{LogFrame}
use Rattle.session_frames.specs.FrameReading.{log_time}
use Rattle.metric_meaning.specs.DurationSteps.{inner_fields}

-- The predicates, and what each knows, in config order.
pub record Known : Type 0 where
  pub predicates : List LPredicate
  pub tables : List PredicateTable

-- the predicates know what these steps make of them
abbrev pub KnowsAfter : List Step → Known → Type 0
KnowsAfter steps known = known.tables ≡ tables_after known.predicates steps

-- whatever steps the old knew, the new knows those and this one
abbrev pub KnowsStep : Step → Known → Known → Type 0
KnowsStep step old new = (steps : List Step) → KnowsAfter steps old → KnowsAfter (steps ++ step ∷ []) new

-- the truth of a metric's condition for what its links read, by what predicates know
abbrev pub truth_by : Known → LMetric → LeafReading → Truth
truth_by known metric reading = condition_truth known.predicates known.tables metric reading

-- whether it is true
abbrev pub holds_by : Known → LMetric → LeafReading → Bool
holds_by known metric reading = is_condition_true known.predicates known.tables metric reading

-- how often a key found no room, for each predicate where that is so
abbrev pub drops_in : List LPredicate → List PredicateTable → List Drop64
drops_in [] tables = []
drops_in (predicate ∷ predicates) [] = []
drops_in (predicate ∷ predicates) (table ∷ tables) =
    drop_above_zero (record { id = predicate.id; number = table.state.dropped }) ++ drops_in predicates tables

-- the step of a frame of the log with these truths
abbrev pub logged_step : LogFrame → List Bool → Step
logged_step frame truths = record { at = log_time frame; what = Logged frame; truths = truths }

-- what is read of a key of the predicate that a metric times
abbrev pub reading_in : Known → LMetric → LeafKey → LeafReading
reading_in known metric key = key_reading (inner_fields (slice_get known.predicates metric.what)) key
