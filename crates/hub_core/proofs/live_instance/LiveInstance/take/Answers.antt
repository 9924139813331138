-- The frame came with the results of the slots.
use Rattle.std.proofs.lemmas.Result.{on_ok_weaker}
use Rattle.std.proofs.Common.{Bool, List, refl, subst, ◌∙◌, arith}
use Rattle.client_engine.specs.InstanceStands.{Logs, AsksAtMost}
use Rattle.hub_core.proofs.live_instance.LiveInstance.take.Goals as goal

pub returns-clause-same : goal.returns-clause-same
returns-clause-same g c = record { slots = refl; carried = c.apply.ensures.same; hearing = refl }

pub returns-clause-taken : goal.returns-clause-taken
returns-clause-taken g c =
    on_ok_weaker c.apply.result
    (λ logs. record {
      logs = subst (λ (truths : List Bool). Logs c.args.self.now.carried.instance c.args.logged.now.coming.frame.now
          truths c.args.logged.now.coming.states.now c.apply.new.self.instance)
          (c.as_slice.ensures.value ∙ c.in_ok-results.ensures) logs;
      same = record { slots = refl; carried = c.apply.ensures.same; hearing = refl };
    })
    c.apply.ensures.logs

-- it asks no more than its metrics may, with the same results
pub returns-clause-asks : goal.returns-clause-asks
returns-clause-asks g c =
    subst (λ (truths : List Bool). AsksAtMost c.args.self.now.carried.instance c.args.logged.now.coming.frame.now truths
    c.args.logged.now.coming.states.now c.args.asks.now c.apply.new.asks)
    (c.as_slice.ensures.value ∙ c.in_ok-results.ensures) c.apply.ensures.asks

-- where memory is wanting for the results, nothing is asked
pub returns-in_err-results-clause-asks : goal.returns-in_err-results-clause-asks
returns-in_err-results-clause-asks g c = λ history frame has later view shown_is book_is. omega arith
