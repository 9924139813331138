use Rattle.std.proofs.Common.{ap, arith, length}
use Rattle.link_rules.proofs.ResolveLemmas.{matchers_resolve, predicates_resolve, few_entities}
use Rattle.link_rules.proofs.cycles.refuse_cycles.Goals as goal

pub refuse_cycle-requires-clause-few : goal.refuse_cycle-requires-clause-few
refuse_cycle-requires-clause-few c =
    omega (arith, (few_entities c.args.entities.now c.requires.numbered).matchers, ap length c.as_slice.ensures)

pub refuse_cycle-requires-clause-resolves : goal.refuse_cycle-requires-clause-resolves
refuse_cycle-requires-clause-resolves c =
    rw (c.requires.ids, c.as_slice.ensures)
    (matchers_resolve c.args.entities.now c.requires.numbered c.requires.named)

pub refuse_cycle-requires-2-clause-few : goal.refuse_cycle-requires-2-clause-few
refuse_cycle-requires-2-clause-few c =
    omega (arith, (few_entities c.args.entities.now c.requires.numbered).predicates, ap length c.as_slice-2.ensures)

pub refuse_cycle-requires-2-clause-resolves : goal.refuse_cycle-requires-2-clause-resolves
refuse_cycle-requires-2-clause-resolves c =
    rw (c.requires.ids, c.as_slice-2.ensures)
    (predicates_resolve c.args.entities.now c.requires.numbered c.requires.named)
