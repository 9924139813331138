-- The key for which a row counts begins, if there is one.
use Rattle.std.proofs.Common.{inl, inr, refl, sym}
use Rattle.std.proofs.lemmas.Result.{on_ok_weaker}
use Rattle.duration_metric.proofs.sum.begin_out.Goals as goal

pub returns-in-Some : goal.returns-in-Some
returns-in-Some c =
    on_ok_weaker c.begin.result (λ begins. inr (c.in-Some.key.now, sym c.in-Some.ensures, begins)) c.begin.ensures

pub returns-in-None : goal.returns-in-None
returns-in-None c = inl (sym c.in-None.ensures, refl)
