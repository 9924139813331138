use Rattle.std.proofs.Common.{refl}
use Rattle.std.proofs.lemmas.Bool.{false≢true}
use Rattle.std.proofs.lemmas.Result.{err_from_is_err_and}
use Rattle.kept_rows.proofs.KeptItemsLemmas.{kept_fails, kept_built, no_kept}
use Rattle.kept_rows.proofs.flat.KeptRowsFlat.build.Goals as goal

-- no such form stands there
pub returns-in_err-form : goal.returns-in_err-form
returns-in_err-form g c =
    let p = err_from_is_err_and c.from_residual.result c.from_residual.ensures.1 in
    rw (p.1, p.2) (kept_fails g.R.Weighed.weigh g.R.Flat.valid g.R.Flat.flat c.args.items.now c.args.place
    c.in_err-form.field-0.0 c.in_err-form.ensures)

-- the form is that of kept rows
pub returns : goal.returns
returns g c =
    kept_built g.R.Weighed.weigh g.R.Flat.valid g.R.Flat.flat c.args.items.now c.args.place c.in_ok-form.form
    c.in_ok-form.next c.in_ok-form.ensures (c.in-Some.ensures.within.0 refl) c.in-Some.kept c.in-Some.ensures.value

-- the form isn't that of kept rows
pub returns-in_default : goal.returns-in_default
returns-in_default g c =
    no_kept g.R.Weighed.weigh g.R.Flat.valid g.R.Flat.flat c.args.items.now c.args.place c.in_ok-form.form
    c.in_ok-form.next c.in_ok-form.ensures (λ within. false≢true (c.in_default.ensures.within.1 within))
