-- The walk begins at the top, with nothing found.
use Rattle.std.proofs.Common.{refl, subst}
use Rattle.std.proofs.lemmas.Result.{err_from_is_err_and}
use Rattle.config_decode.specs.Walk.{Walked}
use Rattle.config_decode.specs.Walks.{FailsAt}
use Rattle.config_decode.proofs.WalkLemmas.{whole-is, finds-first}
use Rattle.config_decode.proofs.walk.first_unsupported.Goals as goal

pub returns-in_err-message : goal.returns-in_err-message
returns-in_err-message c =
    let p = err_from_is_err_and c.from_residual.result c.from_residual.ensures.1 in
    rw (p.1, p.2) (subst (λ (walked : Walked). FailsAt walked.fault c.in_err-message.field-0.0)
    (whole-is c.args.bytes.now c.new.result.items c.new-2.result c.new.ensures.items c.new-2.ensures)
    c.in_err-message.ensures.walked)

pub returns : goal.returns
returns c =
    finds-first c.args.bytes.now c.new.result.items c.new-2.result _ c.message.new.self c.new.ensures.items
    c.new-2.ensures refl c.in_ok-message.ensures.walked
