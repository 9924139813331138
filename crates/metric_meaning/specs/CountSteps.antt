-- What a metric of counts gets at each step.
use Rattle.std.specs.Prelude.{ℕ, Bool, List, [], ◌∷◌, ◌++◌, Option, Some, None}
use Rattle.std.specs.Option.{option_map}
use Rattle.atom_record.specs.declared.value.MetricKey.{MetricKey}
use Rattle.bucket_meaning.specs.Marks.{Mark, Came, no_edges}
use Rattle.bucket_meaning.specs.Kept.{Taken}
use Rattle.config_links.specs.declared.linked.LMetric.{LMetric}
use Rattle.metric_producer.specs.declared.row.CountCell.{CountCell}
use Rattle.metric_producer.specs.declared.row.Row.{Row}
use Rattle.metric_kinds.specs.Counts.{count_kind}
use Rattle.metric_meaning.specs.Histories.{Step, Installation}
use Rattle.metric_meaning.specs.Scenes.{Scene, scene_after}
use Rattle.metric_meaning.specs.Arrivals.{atom_key, arriving_by}
use Rattle.metric_meaning.specs.StepMarks.{StepNews}
use Rattle.metric_meaning.specs.Ways.{Way, shown_by_steps}

-- the key that arrives at a step which leaves this scene: that of the atom that arrives, if one does
abbrev pub arrival_by : Scene → LMetric → Step → Option MetricKey
arrival_by scene metric step = option_map (atom_key scene metric) (arriving_by scene metric step)

-- the key that arrives at a step after others: conditions and states are asked after what the step itself does to them
abbrev pub arrival_at : Installation → LMetric → List Step → Step → Option MetricKey
arrival_at installed metric before step = arrival_by (scene_after installed (before ++ step ∷ [])) metric step

-- an arrival is a key with a 1
abbrev pub arrival_mark : Option MetricKey → List (Mark (MetricKey × ℕ))
arrival_mark None = []
arrival_mark (Some key) = Came (key, 1) ∷ []

-- nothing stands at the beginning and the boundaries of counts, and an arrival is all that a step brings
abbrev pub count_news : Installation → LMetric → StepNews (MetricKey × ℕ)
count_news installed metric = record {
  begins = [];
  edges = λ before. no_edges;
  comes = λ before step. arrival_mark (arrival_at installed metric before step);
}

-- what a metric of counts is, which gathers what found no room in overflow rows, or doesn't
abbrev pub count_way : Installation → LMetric → Bool → Way (MetricKey × ℕ) MetricKey ℕ (Row CountCell)
count_way installed metric overflow = record {
  base = installed.base;
  size = metric.size;
  bound = metric.bound;
  kind = count_kind overflow;
  shown = count_news installed metric;
}

-- what a report shows of a metric of counts, which is made after these steps
abbrev pub counts_shown : Installation → LMetric → Bool → List Step → Bool → ℕ → Taken (Row CountCell)
counts_shown installed metric overflow = shown_by_steps (count_way installed metric overflow)
