-- A hub is built of its moment, its books, and what is live.
use Rattle.std.proofs.Common.{◌≡◌, length, arith}
use Rattle.std.proofs.lemmas.Result.{err_from_is_err_and}
use Rattle.hub_core.proofs.SavedHubsLemmas.{hub_fails, not_all, hub_built}
use Rattle.hub_core.proofs.SavedStandsLemmas.{built_stands}
use Rattle.hub_core.proofs.hub.Hub.build.Goals as goal

-- no such parts stand there
pub returns-in_err-form-clause-built : goal.returns-in_err-form-clause-built
returns-in_err-form-clause-built g c =
    let p = err_from_is_err_and c.from_residual.result c.from_residual.ensures.1 in
    rw (p.1, p.2) (hub_fails c.args.items.now g.row.J.Denot c.in_err-form.field-0.0 c.in_err-form.ensures)

-- more stands there
pub returns-then-next-len-clause-built : goal.returns-then-next-len-clause-built
returns-then-next-len-clause-built g c =
    let other = c.if-next-len.true in
    let len = c.len.ensures in
    not_all c.args.items.now c.in_ok-form.form c.in_ok-form.next c.in_ok-form.ensures
    (λ same. omega (arith, same, other, len)) g.row.J.Denot

-- the hub of these parts
pub returns-clause-built : goal.returns-clause-built
returns-clause-built g c =
    let all : c.in_ok-form.next ≡ length c.args.items.now = omega (arith, c.if-next-len.false, c.len.ensures) in
    hub_built c.args.items.now c.in_ok-form.form c.in_ok-form.next c.in_ok-form.ensures c.restore.result all
    c.restore.ensures.restored

-- it stands for what any hub of these items stands for
pub returns-clause-stands : goal.returns-clause-stands
returns-clause-stands g c =
    let all : c.in_ok-form.next ≡ length c.args.items.now = omega (arith, c.if-next-len.false, c.len.ensures) in
    built_stands g.J.Judge.says c.args.items.now c.restore.result
    (hub_built c.args.items.now c.in_ok-form.form c.in_ok-form.next c.in_ok-form.ensures c.restore.result all
    c.restore.ensures.restored)
