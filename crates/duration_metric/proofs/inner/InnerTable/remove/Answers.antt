-- The other keys stay as they are.
use Rattle.std.proofs.Common.{◌++◌, refl, ap, ◌∙◌}
use Rattle.std.proofs.lemmas.Map.Made.{IsDistinct-from_AllPairs}
use Rattle.std.proofs.lemmas.Result.{on_ok_weaker}
use Rattle.dim_table.specs.Table.{keys}
use Rattle.duration_metric.specs.Tallies.{left_key}
use Rattle.duration_metric.proofs.InnerLemmas.{parts_are, takes_out}
use Rattle.duration_metric.proofs.KnownLemmas.{leaves_exact}
use Rattle.duration_metric.proofs.inner.InnerTable.remove.Goals as goal

pub returns : goal.returns
returns c =
    let old = c.args.self.now in
    on_ok_weaker c.leave.result
    (λ is. takes_out (λ x y. (leaves_exact x y).0) old c.leave.new.self c.args.key.now
    (IsDistinct-from_AllPairs leaves_exact (keys old.keys) c.len-len.ensures.distinct)
    (is ∙ parts_are old _ _ old.touched old.touched _ _ c.remove.ensures.rows refl
    (ap (λ l. old.gone ++ l) (c.left-out.ensures ∙ ap left_key c.remove.ensures.value))))
    c.leave.ensures
