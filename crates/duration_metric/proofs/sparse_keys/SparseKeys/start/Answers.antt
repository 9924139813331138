-- A start of a listed key, or of a new one.
use Rattle.std.proofs.Common.{sym}
use Rattle.std.proofs.lemmas.Result.{IfOk-weaker}
use Rattle.predicate_state.specs.declared.event.PredEvent.TheVariants.{Start}
use Rattle.duration_metric.proofs.SparseTurnLemmas.{started, start_lists}
use Rattle.duration_metric.proofs.sparse_keys.SparseKeys.start.Goals as goal

pub returns-in_default : goal.returns-in_default
returns-in_default c = IfOk-weaker c.append.result _ _
    (λ turn lists. lists Start (start_lists c.args.self.now c.args.at c.args.key.now (sym c.in_default.ensures.value)))
    c.append.ensures

pub returns : goal.returns
returns c = started c.args.self.now c.args.at c.args.key.now c.in-Some.place c.start_at.new.table
    (sym c.in-Some.ensures.value) c.in-Some.ensures.there c.start_at.ensures
