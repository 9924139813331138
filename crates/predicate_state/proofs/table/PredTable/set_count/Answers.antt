-- A write to a count changes no key.
use Rattle.std.proofs.Common.{refl}
use Rattle.predicate_state.proofs.KeyCountLemmas.{leaves_kept}
use Rattle.predicate_state.proofs.table.PredTable.set_count.Goals as goal

pub invariant_of-self : goal.invariant_of-self
invariant_of-self c = c.self.invariant

pub returns : goal.returns
returns c = rw (← c.self.view_is) refl

pub invariant_of-self-2 : goal.invariant_of-self-2
invariant_of-self-2 c = (
  c.self.invariant.0,
  leaves_kept c.self.inside.spec.leaves c.self.inside.counts.rows c.args.place c.args.count c.self.invariant.1,
)
