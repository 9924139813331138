-- A hub has just these parts.
use Rattle.std.proofs.Common.{refl}
use Rattle.hub_core.proofs.SavedHubsLemmas.{restored}
use Rattle.hub_core.proofs.hub.saved.restore.Goals as goal

pub returns-clause-restored : goal.returns-clause-restored
returns-clause-restored g c =
    restored c.args.form _ c.in-Some.ensures.0 c.in-Some.ensures.1 refl refl c.in_ok-lives.ensures
