-- The rows of those so far were added, where each has a sample, and the others are still to come.
use Rattle.std.proofs.Common.{◌≡◌, List, ◌++◌, map}
use Rattle.atom_record.specs.declared.atom.Atom.{Atom}
use Rattle.atom_record.specs.declared.value.MetricKey.{MetricKey}
use Rattle.kept_rows.specs.KeptRows.{AddsRows}
use Rattle.metric_kinds.specs.Gauges.{samples_weight}
use Rattle.gauge_metric.specs.GaugeStands.{sample_row, HaveSamples}
use Rattle.gauge_metric.proofs.gauge.keep_all.Given as goal

abbrev pub invariant-loop-key : goal.invariant-loop-key
invariant-loop-key l = (done : List (MetricKey × List Atom)) × (l.initial.key-iterator ≡ done ++ l.key-iterator)
    × (HaveSamples done → AddsRows samples_weight l.initial.kept l.kept (map (sample_row l.start l.end) done))
