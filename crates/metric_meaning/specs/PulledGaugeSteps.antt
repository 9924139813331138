-- What a pulled gauge gets: at its moments, a sample of each atom of the last snapshot that it means.
use Rattle.std.specs.Prelude.{ℕ, Bool, false, ◌&&◌, List, [], ◌∷◌, ◌++◌, map, Option, if◌then◌else◌}
use Rattle.std.specs.Option.{option_map}
use Rattle.atom_record.specs.declared.atom.Atom.{Atom}
use Rattle.atom_record.specs.declared.log.LogFrame.TheVariants.{AtomAt}
use Rattle.atom_record.specs.declared.value.MetricKey.{MetricKey}
use Rattle.field_select.specs.declared.leaf.FieldSet.{FieldSet}
use Rattle.config_types.specs.declared.parameters.Sampling.{Sampling}
use Rattle.config_types.specs.declared.parameters.Sampling.TheVariants.{AtStart, AtChange, AtTrigger}
use Rattle.bucket_meaning.specs.Marks.{Mark}
use Rattle.bucket_meaning.specs.Kept.{Taken}
use Rattle.config_links.specs.declared.linked.LMetric.{LMetric}
use Rattle.metric_producer.specs.declared.row.Row.{Row}
use Rattle.metric_kinds.specs.Gauges.{gauge_kind}
use Rattle.metric_kinds.specs.PulledSamples.{KeyedAtoms, sample_marks}
use Rattle.metric_meaning.specs.Histories.{What, Logged, Step, Installation}
use Rattle.metric_meaning.specs.PredicateSteps.{named_truth}
use Rattle.metric_meaning.specs.StepMarks.{StepNews}
use Rattle.metric_meaning.specs.Ways.{Way, shown_by_steps}
use Rattle.metric_meaning.specs.Samples.{sample_of}
use Rattle.metric_meaning.specs.SnapshotSteps.{is_held, snapshot_found, pulled_key}
use Rattle.metric_meaning.specs.PulledIntervals.{Watch, becomes_true}

-- the samples of a snapshot's atoms, each with its atom's key
abbrev pub pulled_samples : LMetric → Option FieldSet → List Atom → KeyedAtoms
pulled_samples metric fields atoms = map (λ atom. (pulled_key metric atom, sample_of fields atom)) atoms

-- what a pulled gauge watches: the samples of the last snapshot
abbrev pub watched_samples : Installation → LMetric → Option FieldSet → Watch (Option KeyedAtoms)
watched_samples installed metric fields = record {
  base = installed.base;
  size = metric.size;
  holds = is_held installed metric;
  found = λ steps. option_map (pulled_samples metric fields) (snapshot_found installed metric steps);
}

-- whether an atom matches a trigger
abbrev pub is_triggered : Option ℕ → Step → Bool
is_triggered trigger step = of_what step.what where
  of_what : What → Bool
  of_what (Logged (AtomAt at atom)) = named_truth trigger step.truths
  of_what _ = false

module _ (mode : Sampling) (trigger : Option ℕ) (watch : Watch (Option KeyedAtoms)) where
  -- whether a step is a moment of sampling by itself: the condition has become true, or it is true after an atom that
  -- matches the trigger
  abbrev pub is_moment : List Step → Step → Bool
  is_moment before step = by mode where
    by : Sampling → Bool
    by AtStart = becomes_true watch before step
    by AtChange = becomes_true watch before step
    by AtTrigger = is_triggered trigger step && watch.holds (before ++ step ∷ [])

  -- what is sampled where a part begins: in the mode for it, if the condition is true there
  abbrev pub sampled_at_start : List Step → List (Mark (MetricKey × Atom))
  sampled_at_start before = by mode where
    by : Sampling → List (Mark (MetricKey × Atom))
    by AtStart = if watch.holds before then sample_marks (watch.found before) else []
    by AtChange = []
    by AtTrigger = []

  -- what a step brings
  abbrev pub sampled_at : List Step → Step → List (Mark (MetricKey × Atom))
  sampled_at before step = if is_moment before step then sample_marks (watch.found (before ++ step ∷ [])) else []

  -- samples are taken where parts begin, the first at the installation, and at steps; where a part ends nothing comes
  abbrev pub pulled_gauge_news : StepNews (MetricKey × Atom)
  pulled_gauge_news = record {
    begins = sampled_at_start [];
    edges = λ before. record {
      closing = λ at. [];
      closing_again = λ at. [];
      opening = λ at. sampled_at_start before;
    };
    comes = sampled_at;
  }

-- what a pulled gauge is, which keeps so many samples of a key in a part
abbrev pub pulled_gauge_way : Installation → LMetric → Option FieldSet → ℕ → Sampling → Option ℕ
    → Way (MetricKey × Atom) MetricKey Atom (Row (List Atom))
pulled_gauge_way installed metric fields samples mode trigger = record {
  base = installed.base;
  size = metric.size;
  bound = metric.bound;
  kind = gauge_kind samples;
  shown = pulled_gauge_news mode trigger (watched_samples installed metric fields);
}

-- what a report shows of a pulled gauge, which is made after these steps
abbrev pub pulled_gauge_shown : Installation → LMetric → Option FieldSet → ℕ → Sampling → Option ℕ → List Step → Bool
    → ℕ → Taken (Row (List Atom))
pulled_gauge_shown installed metric fields samples mode trigger =
    shown_by_steps (pulled_gauge_way installed metric fields samples mode trigger)
