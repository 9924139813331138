-- The truth that stays, or the one that the condition has.
use Rattle.std.proofs.Common.{ap, ◌∙◌}
use Rattle.std.proofs.lemmas.Bool.{false≢true}
use Rattle.std.specs.Prelude.{is_some}
use Rattle.std.proofs.lemmas.Result.{IfOk-weaker}
use Rattle.duration_metric.specs.InnerKeys.{inner_keys, last_known}
use Rattle.metric_calls.specs.DurationCalls.{known_in}
use Rattle.client_engine.specs.Bringing.{handed_with}
use Rattle.client_engine.specs.InnerTold.{fields_in}
use Rattle.client_engine.proofs.ChangesLemmas.{truth_there, kept_there}
use Rattle.client_engine.proofs.inner.truth_at.Goals as goal

-- it was told, and stays
pub returns-in-Some-clause-truth : goal.returns-in-Some-clause-truth
returns-in-Some-clause-truth g c = λ params calls scene stands found shared keeps there.
    let asker = c.args.asker.now in
    kept_there (fields_in scene asker.metric.now) asker.stays (last_known params.spec calls)
    (known_in scene asker.metric.now) (inner_keys params.spec calls) c.args.place c.args.key.now c.in-Some.truth keeps
    there
    (rw (c.in-Some.is) at (c.kept_truth.ensures params calls stands))

-- it is asked
pub returns-in-None-clause-truth : goal.returns-in-None-clause-truth
returns-in-None-clause-truth g c =
    IfOk-weaker c.truth_of.result _ _
    (λ truth is params calls scene stands found shared keeps there.
    let asker = c.args.asker.now in
    truth_there (handed_with c.args.conditions.now asker.brought.now) scene asker.metric.now c.args.key.now truth found
    (is shared))
    c.truth_of.ensures.truth

-- a truth that stays isn't asked
pub returns-in-None-clause-asks : goal.returns-in-None-clause-asks
returns-in-None-clause-asks g c = (
  c.truth_of.ensures.asks,
  λ params calls stands kept.
      absurd (false≢true (ap is_some (rw (c.in-None.is) at (c.kept_truth.ensures params calls stands)) ∙ kept)),
)
