use Rattle.std.proofs.Common.{◌≤◌, Bool, List, length, Some, sym, subst, arith}
use Rattle.config_links.specs.MetricLinks.{AreMarked}
use Rattle.config_links.proofs.AskedLemmas.{marked_result, none_marked}
use Rattle.config_links.proofs.asked.marks_of.Goals as goal

-- past the end nothing is reached
pub returns-then-from-predicates : goal.returns-then-from-predicates
returns-then-from-predicates c =
    let past : length c.args.predicates.now ≤ c.args.from = omega (arith, c.if-from-predicates.true) in
    subst (λ (marks : List Bool). AreMarked c.args.predicates.now (Some c.args.from) marks) (sym c.new.ensures)
    (none_marked c.args.predicates.now c.args.from past)

-- the marks are those of what is reached
pub returns : goal.returns
returns c = marked_result c.args.predicates.now c.args.from c.reached_from.result c.reached_from.ensures
