use Rattle.std.proofs.Common.{◌∙◌, arith}
use Rattle.heard_ids.proofs.HeededLemmas.{listed_within, listed_past}
use Rattle.heard_ids.proofs.heeded.is_true_at.Goals as goal

-- a truth stands there
pub returns-in-Some : goal.returns-in-Some
returns-in-Some c =
    let found = c.in-Some.ensures.lookup in
    let within = found.0 in
    found.1 ∙ listed_within c.args.truths.now c.args.place c.in-Some.truth.now (grind (arith, within))

-- none does
pub returns-in-None : goal.returns-in-None
returns-in-None c = listed_past c.args.truths.now c.args.place c.in-None.ensures.lookup.3
