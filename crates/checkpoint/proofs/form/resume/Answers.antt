-- The hub of the items that the bytes are the spelling of; or no hub has the items, or no items the bytes.
use Rattle.std.proofs.lemmas.Result.{err_from_is_err_and}
use Rattle.hub_core.specs.HubSaving.{saved_of}
use Rattle.hub_core.specs.SavedHubs.{saved_items}
use Rattle.checkpoint.proofs.FormLemmas.{unread, unbuilt, form_there}
use Rattle.checkpoint.proofs.form.resume.Goals as goal

pub returns-in_err-items-clause-resumes : goal.returns-in_err-items-clause-resumes
returns-in_err-items-clause-resumes g c =
    let failed = err_from_is_err_and c.from_residual.result c.from_residual.ensures.1 in
    rw (failed.1, failed.2) (unread g.row.J.Denot c.args.bytes c.in_err-items.field-0.0 c.in_err-items.ensures)

pub returns-in_err-build-clause-resumes : goal.returns-in_err-build-clause-resumes
returns-in_err-build-clause-resumes g c =
    let failed = err_from_is_err_and c.from_residual-in_err-build.result c.from_residual-in_err-build.ensures.1 in
    rw (failed.1, failed.2) (unbuilt g.row.J.Denot c.args.bytes c.in_ok-items.items c.in_err-build.field-0.0
    c.in_ok-items.ensures c.in_err-build.ensures.built)

pub returns-clause-resumes : goal.returns-clause-resumes
returns-clause-resumes g c =
    form_there g.row.J.Denot c.args.bytes c.in_ok-items.items c.in_ok-build.field-0 c.in_ok-build.ensures.built
    c.in_ok-items.ensures

pub returns-clause-stands : goal.returns-clause-stands
returns-clause-stands g c = λ frames saved.
    let same = c.in_ok-items.ensures.only (saved_items (saved_of saved.hub)) saved.form.can_be saved.form.spelled in
    c.in_ok-build.ensures.stands saved.hub frames saved.form.valid same saved.stands
