-- Each number that is read leaves the fault to the rest.
use Rattle.std.proofs.Common.{◌≡◌, ◌<◌, ℕ, List, length, false, arith, sym, ap, ◌∙◌}
use Rattle.std.specs.Prelude.{◌==◌}
use Rattle.std.proofs.lemmas.Bool.{eqb-true, eqb-false}
use Rattle.std.proofs.lemmas.Result.{err_from_is_err_and}
use Rattle.config_decode.specs.Walk.{Packed}
use Rattle.config_decode.proofs.PackedLemmas.{packed_at-none, fault-after, fault-here}
use Rattle.config_decode.proofs.walk.check_packed.Goals as goal

some : (bytes : List ℕ) → false ≡ (length bytes == 0) → 0 < length bytes
some bytes full = let is = eqb-false (length bytes) 0 (sym full) in omega (arith, is)

pub returns-in_err-left : goal.returns-in_err-left
returns-in_err-left c =
    let p = err_from_is_err_and c.from_residual.result c.from_residual.ensures.1 in
    rw (p.1, p.2) (sym c.loop-rest.invariant ∙ fault-here c.args.at c.loop-rest.rest.now _
    (some c.loop-rest.rest.now c.loop-rest-test.ensures) c.in_err-left.ensures.number)

pub loop-rest-preserved : goal.loop-rest-preserved
loop-rest-preserved c =
    sym (fault-after c.args.at _ c.loop-rest.rest.now _
    (some c.loop-rest.rest.now c.loop-rest-test.ensures) c.in_ok-left.ensures.number)
    ∙ c.loop-rest.invariant

pub returns : goal.returns
returns c =
    sym c.loop-rest.invariant
    ∙ ap (λ (packed : Packed). packed.fault) (packed_at-none c.args.at c.loop-rest.rest.now
    (eqb-true _ _ (sym c.loop-rest-test.ensures)))
