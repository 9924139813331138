-- The changes so far were told.
use Rattle.duration_metric.specs.SparseEntries.{LearnsDelta}
use Rattle.duration_metric.proofs.sparse_keys.SparseKeys.learn.Given as goal

abbrev pub invariant-loop-change : goal.invariant-loop-change
invariant-loop-change l = LearnsDelta l.initial.self l.self l.at (record { changes = l.yielded })
