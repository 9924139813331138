use Rattle.std.proofs.Common.{sym}
use Rattle.predicate_state.proofs.BindLemmas.{one_unbound}
use Rattle.predicate_state.proofs.table.binds_every_leaf.Goals as goal

-- one place isn't bound, so not all are
pub returns-then-not-binds_place : goal.returns-then-not-binds_place
returns-then-not-binds_place c =
    sym (one_unbound c.args.binds.now c.args.leaves c.loop-place.place c.loop-place-test.true
    (sym c.if-not-binds_place.ensures))
