-- A client's part of this hub is its private run.
use Rattle.hub_core.proofs.AloneLemmas.{as_alone}
use Rattle.hub_core.proofs.hub.Hub.runs_as_alone.Goals as goal

pub returns : goal.returns
returns g c client frames h k = as_alone g.J.Judge.says client frames c.args.self.now c.args.alone.now h k
