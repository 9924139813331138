-- What a pulled metric asks of its producer, for every kind of it: it tells the snapshot of a pull of its id, and after
-- an atom that touches it how the condition stands. Both are told once at the beginning, as they stand there.
use Rattle.std.specs.Prelude.{ℕ, ◌==◌, Bool, false, ◌&&◌, List, [], ◌∷◌, ◌++◌, map, Option, if◌then◌else◌}
use Rattle.std.specs.Option.{option_map_or}
use Rattle.atom_record.specs.declared.atom.Atom.{Atom}
use Rattle.atom_record.specs.declared.log.LogFrame.TheVariants.{AtomAt, Pull}
use Rattle.atom_record.specs.Pulled.{is_pull_id}
use Rattle.bucket_meaning.specs.Ends.{Moment}
use Rattle.config_types.specs.declared.matcher.SimpleMatcher.{SimpleMatcher}
use Rattle.matcher_eval.specs.AtomTests.{number_set}
use Rattle.config_links.specs.declared.linked.LMatcher.{LMatcher}
use Rattle.config_links.specs.declared.linked.LMetric.{LMetric}
use Rattle.predicate_state.specs.declared.truth.Truth.{Truth}
use Rattle.metric_producer.specs.Calls.{Call, Got, Learned}
use Rattle.metric_producer.specs.LaneCalls.{LaneStep}
use Rattle.metric_meaning.specs.Histories.{What, Logged, Step, Installation}
use Rattle.metric_meaning.specs.Scenes.{Scene, scene_after}
use Rattle.metric_meaning.specs.MetricConditions.{condition_truth}
use Rattle.metric_meaning.specs.SnapshotSteps.{pulled_matcher, snapshot_found, nothing_read}
use Rattle.metric_meaning.specs.Touched.{is_touched}
use Rattle.metric_meaning.specs.Ways.{Way}
use Rattle.metric_calls.specs.Askings.{Asking}

-- a matcher means the atoms of a pull of this id, which is one that is pulled
abbrev pub means_pull : ℕ → SimpleMatcher → Bool
means_pull id matcher = (id == number_set matcher.atom_id) && is_pull_id id

-- a pull of this id is told to a metric
abbrev pub is_told_of : List LMatcher → LMetric → ℕ → Bool
is_told_of matchers metric id = option_map_or (means_pull id) (pulled_matcher matchers metric) false

-- the truth of a pulled metric's condition in a scene
abbrev pub truth_in : Scene → LMetric → Truth
truth_in scene metric = condition_truth scene.linked.predicates scene.tables metric nothing_read

-- How a kind of pulled metric tells things: a snapshot's atoms, or that there is no snapshot; and what it tells besides
-- of an atom with these truths of matchers, once the condition after it was told.
pub record Telling (Event : Type 0) : Type 0 where
  pub snapshot : Option (List Atom) → Event
  pub atom : List Bool → List Event

module _ {Event : Type 0} (telling : Telling Event) where
  -- what is told of a pull, if it is, by what is found then
  abbrev pub pull_calls : Bool → ℕ → Option (List Atom) → List (Call Event Truth)
  pull_calls told at found = if told then Got at (telling.snapshot found) ∷ [] else []

  -- what is told of an atom, if it touches the metric: the condition after it, and then what its matchers say
  abbrev pub atom_calls : Bool → ℕ → Truth → List Bool → List (Call Event Truth)
  atom_calls touched at now truths =
      if touched then Learned at now ∷ map (λ event. Got at event) (telling.atom truths) else []

  module _ (installed : Installation) (metric : LMetric) where
    -- what is told at the beginning: the last snapshot, and the condition
    abbrev pub calls_at_first : List (Call Event Truth)
    calls_at_first =
        Got installed.base (telling.snapshot (snapshot_found installed metric []))
        ∷ (Learned installed.base (truth_in (scene_after installed []) metric) ∷ [])

    -- what is told at a step after others
    abbrev pub calls_told : List Step → Step → List (Call Event Truth)
    calls_told before step = of_what step.what where
      of_what : What → List (Call Event Truth)
      of_what (Logged (Pull at id outcome)) =
          pull_calls (is_told_of installed.linked.matchers metric id) step.at
          (snapshot_found installed metric (before ++ step ∷ []))
      of_what (Logged (AtomAt at atom)) =
          atom_calls (is_touched installed.linked.predicates metric step.truths) step.at
          (truth_in (scene_after installed (before ++ step ∷ [])) metric) step.truths
      of_what _ = []

-- a lane to which a step brings calls asks for these
abbrev pub calls_brought : {Event After : Type 0} → List (LaneStep (List (Call Event After))) → Moment
    → List (Call Event After) → List (Call Event After)
calls_brought before moment calls = calls

-- what a pulled metric asks of a producer that is made with this, which it tells things so
abbrev pub told_asking : {Params Event X K C R : Type 0} → Way X K C R → Params → Telling Event → Installation → LMetric
    → Asking Params (List (Call Event Truth)) Event Truth X K C R
told_asking way params telling installed metric = record {
  way = way;
  params = params;
  opens = calls_at_first telling installed metric;
  news = calls_told telling installed metric;
  asks = calls_brought;
}
