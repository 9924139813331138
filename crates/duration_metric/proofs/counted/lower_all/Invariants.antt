-- The keys so far were taken out.
use Rattle.std.proofs.Common.{◌≡◌, ℕ, ◌+◌, take, drop}
use Rattle.atom_record.specs.declared.value.MetricKey.{MetricKey}
use Rattle.duration_metric.specs.Tallies.{tally_at, how_often, NewZeros}
use Rattle.duration_metric.proofs.counted.lower_all.Given as goal

abbrev pub invariant-loop-key : goal.invariant-loop-key
invariant-loop-key l = ((rest : MetricKey → ℕ)
    → ((key : MetricKey) → tally_at l.initial.tally key ≡ rest key + how_often key l.keys)
    → (key : MetricKey) → tally_at l.tally key ≡ rest key + how_often key (drop l.key-index l.keys))
    × NewZeros l.initial.tally l.tally (take l.key-index l.keys)
