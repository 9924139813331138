-- A write to a count changes neither keys nor what was told.
use Rattle.std.proofs.Common.{refl, sym}
use Rattle.std.proofs.lemmas.Result.{on_ok_weaker}
use Rattle.duration_metric.proofs.InnerLemmas.{parts_are, sets_count}
use Rattle.duration_metric.proofs.inner.InnerTable.set_count.Goals as goal

pub returns : goal.returns
returns c =
    let old = c.args.self.now in
    on_ok_weaker c.push.result
    (λ added. sets_count old _ c.args.place c.args.count c.in-Some.inner.now (sym c.in-Some.ensures.value)
    (parts_are old _ _ _ _ old.gone old.gone refl added refl))
    c.push.ensures.added
