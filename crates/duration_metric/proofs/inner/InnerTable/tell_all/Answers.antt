-- One change more was told.
use Rattle.std.proofs.Common.{◌≡◌, length, arith, subst, sym, ◌∙◌}
use Rattle.std.specs.Vec.Iter.{into_iter_items, into_iter_len}
use Rattle.std.proofs.lemmas.List.{map-id}
use Rattle.std.proofs.lemmas.Iterator.Adapters.{YieldsList-from_vec}
use Rattle.std.proofs.lemmas.Iterator.Consumers.{YieldsList-end}
use Rattle.std.proofs.lemmas.Map.Made.{IsDistinct-from_AllPairs}
use Rattle.dim_table.specs.Table.{keys}
use Rattle.duration_metric.specs.InnerStands.{TellsAll}
use Rattle.duration_metric.proofs.KnownLemmas.{leaves_exact, tells_more}
use Rattle.duration_metric.proofs.inner.InnerTable.tell_all.Goals as goal

pub loop-change-preserved : goal.loop-change-preserved
loop-change-preserved c =
    tells_more c.args.self.now c.loop-change.self c.tell_one.new.self c.loop-change.yielded c.in-Some.change
    (IsDistinct-from_AllPairs leaves_exact (keys c.args.self.now.keys) c.len-len.ensures.distinct)
    c.loop-change.invariant c.in_ok-tell_one.ensures

-- all were told
pub returns : goal.returns
returns c =
    let items : into_iter_items c.into_iter-change-iterator.result ≡ c.args.changes = cc in
    let count : into_iter_len c.into_iter-change-iterator.result ≡ length c.args.changes = grind arith in
    let all = YieldsList-end (YieldsList-from_vec {s = c.into_iter-change-iterator.result} c.args.changes items count)
    c.loop-change.yielded c.loop-change.change-iterator c.loop-change.yielded_by c.next.result c.next.new.self
    c.in-None.is c.next.ensures.steps in
    subst (TellsAll c.args.self.now c.loop-change.self) (sym (map-id c.loop-change.yielded) ∙ all.0)
    c.loop-change.invariant
