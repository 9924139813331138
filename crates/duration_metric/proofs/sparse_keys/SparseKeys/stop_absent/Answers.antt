-- A stop of a key that isn't listed.
use Rattle.std.proofs.lemmas.Result.{IfOk-weaker}
use Rattle.predicate_state.specs.declared.event.PredEvent.TheVariants.{Stop}
use Rattle.duration_metric.proofs.SparseTurnLemmas.{stop_lists, stop_nothing}
use Rattle.duration_metric.proofs.sparse_keys.SparseKeys.stop_absent.Goals as goal

pub returns-then-not-self : goal.returns-then-not-self
returns-then-not-self c = stop_nothing c.args.self.now c.args.at c.args.key.now c.requires.absent c.if-not-self.true

pub returns : goal.returns
returns c = IfOk-weaker c.append.result _ _
    (λ turn lists. lists Stop
    (stop_lists c.args.self.now c.args.at c.args.key.now c.requires.absent c.if-not-self.false))
    c.append.ensures
