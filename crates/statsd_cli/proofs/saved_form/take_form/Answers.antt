-- A length, and then as many bytes, or not so many.
use Rattle.std.proofs.Common.{◌∙◌, arith, rules}
use Rattle.std.proofs.lemmas.Result.{err_from_is_err_and}
use Rattle.statsd_cli.proofs.FormLemmas.{lacks_length, too_large, takes_form, lacks_rest}
use Rattle.statsd_cli.proofs.saved_form.take_form.Goals as goal

pub returns-in_err-length-clause-lacks : goal.returns-in_err-length-clause-lacks
returns-in_err-length-clause-lacks g c =
    let failed = err_from_is_err_and c.from_residual.result c.from_residual.ensures.1 in
    rw (failed.1, failed.2) (lacks_length _ _ c.in_err-length.field-0.0 c.in_err-length.ensures.lacks)

pub returns-then-size-gt-MOST_SAVED-clause-lacks : goal.returns-then-size-gt-MOST_SAVED-clause-lacks
returns-then-size-gt-MOST_SAVED-clause-lacks g c =
    too_large _ _ c.in_ok-length.length.items c.length_of-size.result c.in_ok-length.ensures.takes
    (c.length_of-size.ensures ∙ c.deref.ensures.value) (search rules) (omega (arith, c.if-size-gt-MOST_SAVED.true))

pub returns-in_err-bytes-clause-lacks : goal.returns-in_err-bytes-clause-lacks
returns-in_err-bytes-clause-lacks g c =
    let failed = err_from_is_err_and c.from_residual-in_err-bytes.result c.from_residual-in_err-bytes.ensures.1 in
    let short = c.if-size-gt-MOST_SAVED.false in
    rw (failed.1, failed.2) (lacks_rest _ _ c.in_ok-length.length.items c.length_of-size.result
    c.in_ok-length.ensures.takes (c.length_of-size.ensures ∙ c.deref.ensures.value) (omega (arith, short)) _
    (omega (arith, short)) c.in_err-bytes.field-0.0 c.in_err-bytes.ensures.lacks)

pub returns-clause-takes : goal.returns-clause-takes
returns-clause-takes g c =
    let short = c.if-size-gt-MOST_SAVED.false in
    rw c.from_vec.ensures (takes_form _ _ c.in_ok-length.length.items c.length_of-size.result
    c.in_ok-length.ensures.takes (c.length_of-size.ensures ∙ c.deref.ensures.value) (omega (arith, short)) _
    (omega (arith, short)) c.in_ok-bytes.bytes.items c.in_ok-bytes.ensures.takes)
