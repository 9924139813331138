-- Each test is a step of the reading. A fault of the type is told before one of the flags.
use Rattle.std.proofs.Common.{sym}
use Rattle.std.proofs.lemmas.Result.{err_from_is_err_and}
use Rattle.atom_record.specs.AtomReading.{reason_of}
use Rattle.atom_record.proofs.AtomReadingSteps.{bad_place, not_above, bad_type, bad_flags, bad_value, entry_read}
use Rattle.atom_record.proofs.parse.entry_of.Goals as goal

pub returns-then-not-fits_limits : goal.returns-then-not-fits_limits
returns-then-not-fits_limits c =
    bad_place c.args.before.now c.args.bytes.now c.in-len5-up.len_at_least (sym c.if-not-fits_limits.ensures)

pub returns-then-not-is_after_last : goal.returns-then-not-is_after_last
returns-then-not-is_after_last c =
    not_above c.args.before.now c.args.bytes.now c.in-len5-up.len_at_least (sym c.if-not-fits_limits.ensures)
    (sym c.if-not-is_after_last.ensures)

pub returns-in_err-kind : goal.returns-in_err-kind
returns-in_err-kind c =
    let p = err_from_is_err_and c.from_residual.result c.from_residual.ensures.1 in
    rw (p.1, p.2) (bad_type c.args.before.now c.args.bytes.now c.in-len5-up.len_at_least
    (sym c.if-not-fits_limits.ensures) (sym c.if-not-is_after_last.ensures) (reason_of c.in_err-kind.field-0.0)
    c.in_err-kind.ensures)

pub returns-then-not-may_have : goal.returns-then-not-may_have
returns-then-not-may_have c =
    bad_flags c.args.before.now c.args.bytes.now c.in-len5-up.len_at_least (sym c.if-not-fits_limits.ensures)
    (sym c.if-not-is_after_last.ensures) c.in_ok-kind.kind c.in_ok-kind.ensures
    (rw (← c.requires) (sym c.if-not-may_have.ensures))

pub returns-in_err-value : goal.returns-in_err-value
returns-in_err-value c =
    let p = err_from_is_err_and c.from_residual-in_err-value.result c.from_residual-in_err-value.ensures.1 in
    rw (p.1, p.2) (bad_value c.args.before.now c.args.bytes.now c.in-len5-up.len_at_least
    (sym c.if-not-fits_limits.ensures) (sym c.if-not-is_after_last.ensures) c.in_ok-kind.kind c.in_ok-kind.ensures
    (rw (← c.requires) (sym c.if-not-may_have.ensures)) (reason_of c.in_err-value.field-0.0) c.in_err-value.ensures)

pub returns : goal.returns
returns c =
    entry_read c.args.before.now c.args.bytes.now c.in-len5-up.len_at_least (sym c.if-not-fits_limits.ensures)
    (sym c.if-not-is_after_last.ensures) c.in_ok-kind.kind c.in_ok-kind.ensures
    (rw (← c.requires) (sym c.if-not-may_have.ensures)) (c.in_ok-value.value, c.in_ok-value.rest.now)
    c.in_ok-value.ensures
