-- Each change in its turn is told.
use Rattle.std.proofs.Common.{◌≡◌, length, arith, subst, sym, ◌∙◌}
use Rattle.std.specs.Vec.Iter.{into_iter_items, into_iter_len}
use Rattle.std.proofs.lemmas.List.{map-id}
use Rattle.std.proofs.lemmas.Iterator.Adapters.{YieldsList-from_vec}
use Rattle.std.proofs.lemmas.Iterator.Consumers.{YieldsList-end}
use Rattle.duration_metric.specs.SparseEntries.{LearnsDelta}
use Rattle.duration_metric.proofs.SparseTurnLemmas.{learns_none, learns_next}
use Rattle.duration_metric.proofs.sparse_keys.SparseKeys.learn.Goals as goal

pub loop-change-init : goal.loop-change-init
loop-change-init c = learns_none c.args.self.now c.args.at

pub loop-change-preserved : goal.loop-change-preserved
loop-change-preserved c =
    learns_next c.args.self.now c.loop-change.self c.args.at c.tell.new.table c.loop-change.yielded c.in-Some.change
    (omega (arith, c.ranges.at)) c.loop-change.invariant c.tell.ensures.there c.tell.ensures.none

-- all were told
pub returns : goal.returns
returns c =
    let changes = c.args.now.changes in
    let items : into_iter_items c.into_iter-change-iterator.result ≡ changes = cc in
    let count : into_iter_len c.into_iter-change-iterator.result ≡ length changes = grind arith in
    let all = YieldsList-end (YieldsList-from_vec {s = c.into_iter-change-iterator.result} changes items count)
    c.loop-change.yielded c.loop-change.change-iterator c.loop-change.yielded_by c.next.result c.next.new.self
    c.in-None.is c.next.ensures.steps in
    subst (λ told. LearnsDelta c.args.self.now c.loop-change.self c.args.at (record { changes = told }))
    (sym (map-id c.loop-change.yielded) ∙ all.0) c.loop-change.invariant
