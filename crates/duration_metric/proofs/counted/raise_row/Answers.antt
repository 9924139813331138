-- A row that is in a tally is counted for what was told of it.
use Rattle.std.proofs.Common.{sym, ap, subst, ◌∙◌, arith}
use Rattle.duration_metric.specs.SumSteps.{found_tallied}
use Rattle.duration_metric.specs.Tallies.{freed_key, RaisesAll}
use Rattle.duration_metric.proofs.RaiseLemmas.{raises_one}
use Rattle.duration_metric.proofs.counted.raise_row.Goals as goal

pub returns-clause-counts : goal.returns-clause-counts
returns-clause-counts c =
    subst (RaisesAll c.args.tally.now c.raise.new.self)
    (c.in-Some-told_of.ensures ∙ sym (ap (λ b. freed_key b c.in-Some.row.now.known) c.if-not-row.false)
    ∙ ap found_tallied c.in-Some.ensures)
    (raises_one c.args.tally.now c.raise.new.self c.in-Some-told_of.out.now c.in_ok-_is_first.ensures.counts)

-- a count has room for one more
pub raise-requires : goal.raise-requires
raise-requires c = record { fits = omega (arith, c.requires.few c.in-Some-told_of.out.now) }
