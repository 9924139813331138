-- Its parts are valid, and the items of some stand before those of the others.
use Rattle.std.proofs.Common.{OnOk, subst}
use Rattle.std.proofs.lemmas.Result.{on_ok_weaker, on_err_weaker}
use Rattle.duration_metric.specs.SumParts.{Summing}
use Rattle.duration_metric.specs.SumItems.{IsSumProducer}
use Rattle.duration_metric.proofs.SumFormLemmas.{front_before}
use Rattle.duration_metric.proofs.sum_flat.SumProducerFlat.flatten.Goals as goal

pub returns-clause-valid : goal.returns-clause-valid
returns-clause-valid c =
    subst (λ (it : Summing). OnOk c.flatten-7.result (IsSumProducer it)) c.self.view_is
    (on_ok_weaker c.flatten-7.result
    (λ kept. record {
      inner = c.in_ok-flatten-3.ensures.valid;
      table = c.in_ok-flatten-6.ensures.valid;
      kept = kept;
    })
    c.flatten-7.ensures.valid)

pub returns-clause-err : goal.returns-clause-err
returns-clause-err c = on_err_weaker c.flatten-7.result
    (λ front.
    front_before c.args.out.now c.flatten.new.out c.flatten-7.new.out _ c.in_ok-flatten.ensures.added
    (front_before c.flatten.new.out c.flatten-2.new.out c.flatten-7.new.out _ c.in_ok-flatten-2.ensures.added
    (front_before c.flatten-2.new.out c.flatten-3.new.out c.flatten-7.new.out _ c.in_ok-flatten-3.ensures.added
    (front_before c.flatten-3.new.out c.flatten-4.new.out c.flatten-7.new.out _ c.in_ok-flatten-4.ensures.added
    (front_before c.flatten-4.new.out c.flatten-5.new.out c.flatten-7.new.out _ c.in_ok-flatten-5.ensures.added
    (front_before c.flatten-5.new.out c.flatten-6.new.out c.flatten-7.new.out _ c.in_ok-flatten-6.ensures.added
    front))))))
    c.flatten-7.ensures.err
