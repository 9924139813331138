use Rattle.std.proofs.Common.{Err, ap}
use Rattle.flat_form.specs.declared.flat_error.FlatError.{FlatError}
use Rattle.std.proofs.lemmas.Result.{err_from_is_err_and}
use Rattle.flat_form.proofs.FlatLaws.{one_built, unread, one_fails}
use Rattle.flat_form.proofs.flat.build_one.Goals as goal

-- no item stands there
pub returns-in_err-item : goal.returns-in_err-item
returns-in_err-item g c =
    let p = err_from_is_err_and c.from_residual.result c.from_residual.ensures.1 in
    rw (p.1, p.2) (unread g.T.Single.wrap c.args.items.now c.args.place c.in_err-item.field-0.0
    (λ same. c.in_err-item.ensures.bad (ap (λ (e : FlatError). Err e) same)))

-- the item holds no such value
pub returns-in_err-value : goal.returns-in_err-value
returns-in_err-value g c =
    let p = err_from_is_err_and c.from_residual-in_err-value.result c.from_residual-in_err-value.ensures.1 in
    rw (p.1, p.2) (one_fails g.T.Single.wrap c.args.items.now c.args.place c.in_ok-item.item
    c.in_ok-item.ensures.found.0
    c.in_err-value.field-0.0 c.in_err-value.ensures)

pub returns : goal.returns
returns g c =
    one_built g.T.Single.wrap c.args.items.now c.args.place g.met.T.Single.distinct c.in_ok-item.item
    c.in_ok-value.value c.in_ok-item.next c.in_ok-item.ensures.found.0 c.in_ok-item.ensures.found.1
    c.in_ok-value.ensures
