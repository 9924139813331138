-- All that is live was caught up by the last moment.
use Rattle.std.proofs.Common.{refl}
use Rattle.std.proofs.lemmas.Result.{on_ok_weaker}
use Rattle.hub_core.proofs.SavedStandsLemmas.{hub_settled}
use Rattle.hub_core.proofs.hub.Hub.settle.Goals as goal

pub returns-clause-awake : goal.returns-clause-awake
returns-clause-awake g c = λ frames stands.
    on_ok_weaker c.settle.result
    (λ woken. hub_settled g.J.Judge.says c.args.self.now _ refl refl woken c.settle.ensures.configs
    c.settle.ensures.counts frames stands) c.settle.ensures.woken
