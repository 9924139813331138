use Rattle.std.proofs.Common.{◌≡◌, length, arith}
use Rattle.known_conditions.specs.Known.{logged_step}
use Rattle.known_conditions.proofs.KeptPredicatesLemmas.{knows_none}
use Rattle.known_conditions.proofs.conditions.Conditions.log.Goals as goal

-- without a table there is nothing that it could act on
pub returns-then-is_empty-clause-knows : goal.returns-then-is_empty-clause-knows
returns-then-is_empty-clause-knows c =
    let tables = c.self.inside.tables in
    let empty = c.if-is_empty.true in
    let says = c.is_empty.ensures in
    let none : length tables.items ≡ 0 = grind (arith, empty, says) in
    rw (← c.self.view_is)
    (knows_none c.self.inside.tree.nodes tables.items (logged_step c.args.frame.now c.args.matched.now)
    c.self.invariant.0.specs none)
