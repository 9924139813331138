-- No bits stand there.
use Rattle.std.specs.Int.{w64, cast_unsigned}
use Rattle.std.proofs.Common.{refl}
use Rattle.std.proofs.lemmas.Result.{err_from_is_err_and}
use Rattle.flat_form.specs.Flat.{Anything, number_items, signed_items, IsSigned}
use Rattle.flat_form.proofs.FlatLaws.{form_fails}
use Rattle.flat_form.proofs.flat.I64Flat.build.Goals as goal

pub returns-in_err-bits : goal.returns-in_err-bits
returns-in_err-bits c =
    let p = err_from_is_err_and c.from_residual.result c.from_residual.ensures.1 in
    rw (p.1, p.2) (form_fails Anything number_items IsSigned signed_items (cast_unsigned w64) (λ y. refl) (λ y ok. tt)
    c.args.items.now c.args.place c.in_err-bits.field-0.0 c.in_err-bits.ensures)
