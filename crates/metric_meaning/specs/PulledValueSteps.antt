-- What a metric of pulled values gets: where an interval ends, the differences between its beginning and its end.
use Rattle.std.specs.Prelude.{ℕ, ℤ, Bool, List, [], ◌∷◌, Option, Some, None}
use Rattle.std.specs.List.{flat_map}
use Rattle.std.specs.Option.{option_map}
use Rattle.atom_record.specs.declared.atom.Atom.{Atom}
use Rattle.atom_record.specs.declared.value.MetricKey.{MetricKey}
use Rattle.config_types.specs.declared.parameters.DiffSpec.{DiffSpec}
use Rattle.bucket_meaning.specs.Kept.{Taken}
use Rattle.config_links.specs.declared.linked.LMetric.{LMetric}
use Rattle.metric_producer.specs.declared.row.Row.{Row}
use Rattle.metric_kinds.specs.Values.{value_kind}
use Rattle.metric_kinds.specs.Diffs.{KeyedInts, interval_marks}
use Rattle.metric_meaning.specs.Histories.{Step, Installation}
use Rattle.metric_meaning.specs.StepMarks.{StepNews}
use Rattle.metric_meaning.specs.Ways.{Way, shown_by_steps}
use Rattle.metric_meaning.specs.ValueLeaves.{ValueLeaf, integer_in}
use Rattle.metric_meaning.specs.SnapshotSteps.{is_held, snapshot_found, pulled_key}
use Rattle.metric_meaning.specs.PulledIntervals.{Watch, ended_by_step, ended_by_boundary, ended_again}

-- an integer with the key of its atom, if there is one
abbrev pub with_pulled_key : LMetric → Atom → Option ℤ → KeyedInts
with_pulled_key metric atom None = []
with_pulled_key metric atom (Some integer) = (pulled_key metric atom, integer) ∷ []

-- the integers of a snapshot's atoms, each with its key; an atom without one gives none
abbrev pub pulled_integers : LMetric → ValueLeaf → List Atom → KeyedInts
pulled_integers metric place atoms =
    flat_map (λ atom. with_pulled_key metric atom (integer_in place atom)) atoms

-- what a metric of pulled values watches: the integers of the last snapshot
abbrev pub watched_integers : Installation → LMetric → ValueLeaf → Watch (Option KeyedInts)
watched_integers installed metric place = record {
  base = installed.base;
  size = metric.size;
  holds = is_held installed metric;
  found = λ steps. option_map (pulled_integers metric place) (snapshot_found installed metric steps);
}

-- an interval gives its differences where it ends: at a step, or at a boundary. Nothing stands at the beginning, and
-- nothing where a part begins
abbrev pub pulled_value_news : DiffSpec → Watch (Option KeyedInts) → StepNews (MetricKey × ℤ)
pulled_value_news spec watch = record {
  begins = [];
  edges = λ before. record {
    closing = λ at. flat_map (interval_marks spec) (ended_by_boundary watch before);
    closing_again = λ at. flat_map (interval_marks spec) (ended_again watch before);
    opening = λ at. [];
  };
  comes = λ before step. flat_map (interval_marks spec) (ended_by_step watch before step);
}

-- what a metric of pulled values is
abbrev pub pulled_value_way : Installation → LMetric → ValueLeaf → DiffSpec → Way (MetricKey × ℤ) MetricKey ℤ (Row ℤ)
pulled_value_way installed metric place spec = record {
  base = installed.base;
  size = metric.size;
  bound = metric.bound;
  kind = value_kind spec.agg spec.skip_zero;
  shown = pulled_value_news spec (watched_integers installed metric place);
}

-- what a report shows of a metric of pulled values, which is made after these steps
abbrev pub pulled_values_shown : Installation → LMetric → ValueLeaf → DiffSpec → List Step → Bool → ℕ → Taken (Row ℤ)
pulled_values_shown installed metric place spec = shown_by_steps (pulled_value_way installed metric place spec)
