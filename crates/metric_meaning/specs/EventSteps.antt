-- What a metric of events gets at each step.
use Rattle.std.specs.Prelude.{ℕ, Bool, List, [], ◌∷◌, Option, Some, None}
use Rattle.atom_record.specs.declared.atom.Atom.{Atom}
use Rattle.atom_record.specs.declared.value.MetricKey.{MetricKey}
use Rattle.bucket_meaning.specs.Marks.{Mark, Came, Ends, no_edges}
use Rattle.bucket_meaning.specs.Kept.{Taken}
use Rattle.config_links.specs.declared.linked.LMetric.{LMetric}
use Rattle.metric_producer.specs.declared.row.Row.{Row}
use Rattle.metric_kinds.specs.Events.{EventAtom, event_key, event_kind}
use Rattle.metric_meaning.specs.Histories.{Step, Installation}
use Rattle.metric_meaning.specs.Arrivals.{arriving}
use Rattle.metric_meaning.specs.StepMarks.{StepNews}
use Rattle.metric_meaning.specs.Ways.{Way, shown_by_steps}

-- an atom that arrives is a part of its own, which ends with it: its row is there at once, and no cut divides it
abbrev pub event_marks : ℕ → Option Atom → List (Mark (MetricKey × EventAtom))
event_marks at None = []
event_marks at (Some atom) = Came (event_key, record { at = at; atom = atom }) ∷ Ends at ∷ []

-- nothing stands at the beginning, there are no boundaries, and a step brings the atom that arrives
abbrev pub event_news : Installation → LMetric → StepNews (MetricKey × EventAtom)
event_news installed metric = record {
  begins = [];
  edges = λ before. no_edges;
  comes = λ before step. event_marks step.at (arriving installed metric before step);
}

-- what a metric of events is: it has no buckets, and one key
abbrev pub event_way : Installation → LMetric → Way (MetricKey × EventAtom) MetricKey EventAtom (Row (List Atom))
event_way installed metric = record {
  base = installed.base;
  size = 0;
  bound = 1;
  kind = event_kind;
  shown = event_news installed metric;
}

-- what a report shows of a metric of events, which is made after these steps
abbrev pub events_shown : Installation → LMetric → List Step → Bool → ℕ → Taken (Row (List Atom))
events_shown installed metric = shown_by_steps (event_way installed metric)
