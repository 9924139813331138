-- What was read goes to the live ones, and the hub serves the frame.
use Rattle.std.proofs.Common.{refl}
use Rattle.hub_core.proofs.HubStandsLemmas.{hub_install}
use Rattle.hub_core.proofs.hub.Hub.install.Goals as goal

pub install-requires : goal.install-requires
install-requires g c = rw c.as_slice.ensures at c.in_ok-read.ensures

pub returns-clause-serves : goal.returns-clause-serves
returns-clause-serves g c = λ frames h.
    hub_install g.J.Judge.says c.args.self.now _ frames h c.args.name.uid c.args.name.id c.in_ok-lives.body refl refl
    c.args.config c.in_ok-read.read (rw c.as_slice.ensures at c.in_ok-read.ensures)
    (rw c.replace-lives.ensures.value at c.in_ok-lives.ensures)
