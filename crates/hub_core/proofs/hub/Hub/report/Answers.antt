-- The configuration is reported, and the hub serves the frame.
use Rattle.std.proofs.Common.{refl}
use Rattle.hub_core.proofs.HubStandsLemmas.{hub_report}
use Rattle.hub_core.proofs.hub.Hub.report.Goals as goal

pub returns-clause-serves : goal.returns-clause-serves
returns-clause-serves g c = λ frames h.
    hub_report g.J.Judge.says c.args.self.now _ frames h c.args.name.uid c.args.name.id c.in_ok-lives.body refl refl
    c.args.include_current (rw c.replace-lives.ensures.value at c.in_ok-lives.ensures)
