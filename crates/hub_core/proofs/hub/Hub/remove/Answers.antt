-- The configuration is taken out, and the hub serves the frame.
use Rattle.std.proofs.Common.{refl}
use Rattle.hub_core.proofs.HubStandsLemmas.{hub_remove}
use Rattle.hub_core.proofs.hub.Hub.remove.Goals as goal

pub returns-clause-serves : goal.returns-clause-serves
returns-clause-serves g c = λ frames h.
    hub_remove g.J.Judge.says c.args.self.now _ frames h c.args.name.uid c.args.name.id c.in_ok-lives.body refl refl
    (rw c.replace-lives.ensures.value at c.in_ok-lives.ensures)
