-- All keys leave.
use Rattle.std.proofs.Common.{◌++◌, false, refl, ap, ◌∙◌}
use Rattle.std.specs.List.{flat_map}
use Rattle.std.proofs.lemmas.Result.{on_ok_weaker}
use Rattle.duration_metric.specs.Tallies.{row_tallied}
use Rattle.duration_metric.proofs.InnerLemmas.{parts_are, takes_all}
use Rattle.duration_metric.proofs.inner.InnerTable.stop_all.Goals as goal

pub returns : goal.returns
returns c =
    let old = c.args.self.now in
    on_ok_weaker c.leave_all.result
    (λ is. takes_all old c.leave_all.new.self
    (is ∙ parts_are (record old { unknown = false }) _ _ old.touched old.touched _ _ c.move_out-rows.ensures.left refl
    (ap (λ rows. old.gone ++ flat_map row_tallied rows) c.move_out-rows.ensures.rows)))
    c.leave_all.ensures
