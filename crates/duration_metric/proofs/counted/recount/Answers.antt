-- The rows that are in it were counted, and then the keys of those that left.
use Rattle.std.proofs.Common.{ap, arith}
use Rattle.duration_metric.specs.Tallies.{tally_at}
use Rattle.duration_metric.proofs.RaiseLemmas.{zeros_begun}
use Rattle.duration_metric.proofs.counted.recount.Goals as goal

pub returns-clause-counts : goal.returns-clause-counts
returns-clause-counts c key =
    let none = ap (λ l. tally_at l key) c.new-tally.ensures in
    omega (arith, none, c.in_ok-raise_rows.ensures.counts key, c.in_ok-raise_all.ensures.counts key)

pub returns-clause-zeros : goal.returns-clause-zeros
returns-clause-zeros c =
    zeros_begun c.new-tally.result c.raise_rows.new.tally c.raise_all.new.tally c.new-tally.ensures
    c.in_ok-raise_rows.ensures.zeros c.in_ok-raise_all.ensures.zeros
