use Rattle.std.proofs.Common.{◌∙◌, Some, None, slice_get, ap}
use Rattle.known_conditions.specs.Touchers.{one_holds}
use Rattle.known_conditions.proofs.TouchersLemmas.{found_hold}
use Rattle.known_conditions.proofs.conditions.Conditions.touches_at.Goals as goal

-- one of the matchers there holds, or none
pub returns-in-Some : goal.returns-in-Some
returns-in-Some c =
    let nodes = c.self.inside.tree.nodes in
    let root = c.args.root in
    let truths = c.args.matched.now in
    let there = rw (c.in-Some.is) at c.get.ensures in
    rw (← c.self.view_is)
    (c.one_holds.ensures ∙ ap (one_holds truths) c.as_slice.ensures
    ∙ found_hold nodes root truths (Some c.in-Some.matchers.now)
    (there ∙ ap (λ lists. slice_get lists root) c.self.invariant.1))

-- past the end no predicate is
pub returns-in-None : goal.returns-in-None
returns-in-None c =
    let nodes = c.self.inside.tree.nodes in
    let root = c.args.root in
    let there = rw (c.in-None.is) at c.get.ensures in
    rw (← c.self.view_is)
    (found_hold nodes root c.args.matched.now None (there ∙ ap (λ lists. slice_get lists root) c.self.invariant.1))
