use Rattle.std.proofs.Common.{◌∙◌, arith}
use Rattle.known_conditions.proofs.MatchedLemmas.{truth_there, truth_past}
use Rattle.known_conditions.proofs.matched.is_true_from.Goals as goal

-- a truth stands there
pub returns-in-Some : goal.returns-in-Some
returns-in-Some c =
    let found = c.in-Some.ensures.lookup in
    let within = found.0 in
    found.1 ∙ truth_there c.args.matched.now c.args.place c.in-Some.truth.now (grind (arith, within))

-- none does
pub returns-in-None : goal.returns-in-None
returns-in-None c = truth_past c.args.matched.now c.args.place c.in-None.ensures.lookup.3
