use Rattle.std.proofs.Common.{refl}
use Rattle.std.proofs.lemmas.Result.{on_ok_weaker}
use Rattle.bucket_clock.specs.Clock.{frame_at}
use Rattle.client_engine.proofs.CaughtUpLemmas.{instance_caught}
use Rattle.client_engine.proofs.InstanceLemmas.{linked_stays}
use Rattle.client_engine.proofs.instance.Instance.catch_up.Goals as goal

-- each metric took the run
pub returns-clause-caught : goal.returns-clause-caught
returns-clause-caught c =
    rw (← c.self.view_is)
    (on_ok_weaker c.catch_up.result (λ takes.
    instance_caught _ _ (frame_at c.args.at c.args.is_pull) refl
    (linked_stays _ _ _ _ _ _ _ refl c.catch_up.ensures.metrics) takes)
    c.catch_up.ensures.takes)
