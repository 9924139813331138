-- Where no form was taken, or no hub built of it, the command ends so.
use Rattle.std.proofs.lemmas.Result.{err_from_is_err_and}
use Rattle.statsd_cli.proofs.ResumeLemmas.{lacks_form, lacks_build}
use Rattle.statsd_cli.proofs.resume.take_hub.Goals as goal

pub returns-in_err-form-clause-lacks : goal.returns-in_err-form-clause-lacks
returns-in_err-form-clause-lacks g c =
    let failed = err_from_is_err_and c.from_residual.result c.from_residual.ensures.1 in
    rw (failed.1, failed.2) (lacks_form _ _ c.in_err-form.field-0.0 c.in_err-form.ensures.lacks)

pub returns-in_err-resume-clause-lacks : goal.returns-in_err-resume-clause-lacks
returns-in_err-resume-clause-lacks g c =
    let failed = err_from_is_err_and c.from_residual-in_err-resume.result c.from_residual-in_err-resume.ensures.1 in
    rw (failed.1, failed.2) (lacks_build _ _ c.in_ok-form.form c.in_err-resume.field-0.0 c.in_ok-form.ensures.takes
    c.in_err-resume.ensures.resumes)

pub returns-clause-takes : goal.returns-clause-takes
returns-clause-takes g c = record {
  bytes = c.in_ok-form.form;
  takes = c.in_ok-form.ensures.takes;
  form = c.in_ok-resume.ensures.resumes;
  stands = c.in_ok-resume.ensures.stands;
}
