-- No halves stand there.
use Rattle.std.specs.Int.{w128, cast_unsigned}
use Rattle.std.proofs.Common.{refl}
use Rattle.std.proofs.lemmas.Result.{err_from_is_err_and}
use Rattle.flat_form.specs.Flat.{Anything, IsValidPair, number_items, pair_items, long_items, halves, IsLong}
use Rattle.flat_form.proofs.FlatLaws.{form_fails}
use Rattle.flat_form.proofs.flat.I128Flat.build.Goals as goal

pub returns-in_err-high : goal.returns-in_err-high
returns-in_err-high c =
    let p = err_from_is_err_and c.from_residual.result c.from_residual.ensures.1 in
    rw (p.1, p.2) (form_fails (IsValidPair Anything Anything) (pair_items number_items number_items) IsLong long_items
    (λ number. halves (cast_unsigned w128 number)) (λ y. refl) (λ y ok. (tt, tt)) c.args.items.now c.args.place
    c.in_err-high.field-0.0 c.in_err-high.ensures)
