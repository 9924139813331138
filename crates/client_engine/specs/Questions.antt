-- How many questions a frame of the log may cost: how often predicates are asked for the truth of a condition.
use Rattle.std.specs.Prelude.{ℕ, ◌+◌, Bool, List, length, if◌then◌else◌}
use Rattle.std.specs.List.{sum_by}
use Rattle.atom_record.specs.declared.log.LogFrame.{LogFrame}
use Rattle.atom_record.specs.declared.log.LogFrame.TheVariants.{AtomAt}
use Rattle.config_types.specs.declared.parameters.PredSpec.{PredSpec}
use Rattle.config_links.specs.declared.linked.LKind.{LKind}
use Rattle.config_links.specs.declared.linked.LKind.TheVariants.{SumDuration, MaxSparse}
use Rattle.config_links.specs.declared.linked.LMetric.{LMetric}
use Rattle.metric_meaning.specs.DurationSteps.{inner_after}
use Rattle.metric_meaning.specs.Histories.{Step, Installation, History}
use Rattle.metric_meaning.specs.Touched.{is_touched}

-- the questions of a duration that is touched: two, and one for each inner key that it has after these steps
abbrev pub duration_questions : Installation → List Step → LMetric → PredSpec → ℕ
duration_questions installed steps metric spec = 2 + length (inner_after installed metric spec steps).counts

-- the questions of a metric that is touched after these steps: one, unless it is a duration
abbrev pub touched_questions : Installation → List Step → LMetric → ℕ
touched_questions installed steps metric = of_kind metric.kind where
  of_kind : LKind → ℕ
  of_kind (SumDuration spec) = duration_questions installed steps metric spec
  of_kind (MaxSparse spec) = duration_questions installed steps metric spec
  of_kind _ = 1

-- the questions of a metric at an atom with these truths of matchers, which comes after these steps: none where the
-- atom doesn't touch it
abbrev pub metric_questions : Installation → List Step → List Bool → LMetric → ℕ
metric_questions installed steps truths metric =
    if is_touched installed.linked.predicates metric truths then touched_questions installed steps metric else 0

-- the questions of some metrics at a frame of the log: only an atom costs any
abbrev pub questions_of : List LMetric → Installation → List Step → LogFrame → List Bool → ℕ
questions_of metrics installed steps (AtomAt at atom) truths = sum_by (metric_questions installed steps truths) metrics
questions_of metrics installed steps _ truths = 0

-- the questions of all metrics of a configuration at a frame that comes after this history
abbrev pub questions_at : History → LogFrame → List Bool → ℕ
questions_at history frame truths =
    questions_of history.installed.linked.metrics history.installed history.steps frame truths
