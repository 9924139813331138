-- No two names are the same, since the map says so, and no client has too many.
use Rattle.hub_core.proofs.SavedRowsLemmas.{rows_may}
use Rattle.hub_core.proofs.lives.Lives.show_live.Goals as goal

pub returns : goal.returns
returns c =
    rows_may c.args.self.now.slots.entries c.args.self.now.named c.len-len.ensures.unique c.args.self.now.few
