-- The samples that were seen have come.
use Rattle.std.proofs.Common.{take}
use Rattle.gauge_metric.specs.PulledStands.{TakesSamples}
use Rattle.gauge_metric.proofs.snapshot.sample_all.Given as goal

abbrev pub invariant-loop-sample : goal.invariant-loop-sample
invariant-loop-sample l = TakesSamples l.samples l.initial.table l.table (take l.sample-index l.snapshot)
