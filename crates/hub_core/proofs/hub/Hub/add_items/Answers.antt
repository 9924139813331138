-- The moment, the books and what is live come one after the other.
use Rattle.hub_core.proofs.SavedHubsLemmas.{hub_saved, hub_added}
use Rattle.hub_core.proofs.hub.Hub.add_items.Goals as goal

pub returns-clause-added : goal.returns-clause-added
returns-clause-added g c =
    hub_added c.args.self.now c.pull_number.result c.args.out.now _ _ _ _ c.pull_number.ensures
    c.in_ok-flatten.ensures.added c.in_ok-flatten-2.ensures.added c.in_ok-flatten-3.ensures.added
    c.in_ok-flatten-4.ensures.added

pub returns-clause-valid : goal.returns-clause-valid
returns-clause-valid g c =
    hub_saved c.args.self.now c.in_ok-flatten-2.ensures.valid c.in_ok-flatten-3.ensures.valid
    c.in_ok-flatten-4.ensures.carried c.in_ok-flatten-4.ensures.may
