-- The groups that are made are those of the rows, and can be written.
use Rattle.std.proofs.Common.{All, ap, subst, sym}
use Rattle.report_writer.specs.Writable.{IsWritableRow}
use Rattle.report_writer.specs.declared.tree.MetricBody.TheVariants.{Gauges}
use Rattle.client_engine.proofs.MessagesLemmas.{gauges-writable}
use Rattle.client_engine.proofs.kinds.gauges.gauges_body.Goals as goal

pub returns-clause-shown : goal.returns-clause-shown
returns-clause-shown c = ap (λ groups. Gauges groups) c.in_ok-groups.ensures

pub returns-clause-writable : goal.returns-clause-writable
returns-clause-writable c =
    subst (All IsWritableRow) (sym c.in_ok-groups.ensures) (gauges-writable c.args.rows)
