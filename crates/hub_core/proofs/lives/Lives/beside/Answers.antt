-- It goes in last, or it may not be there.
use Rattle.std.proofs.Common.{ap}
use Rattle.hub_core.proofs.SavedRowsLemmas.{stays_out, goes_in_last}
use Rattle.hub_core.proofs.lives.Lives.beside.Goals as goal

pub returns-then-not-has_room : goal.returns-then-not-has_room
returns-then-not-has_room c =
    stays_out c.args.self.slots.entries c.args.self.counts.entries c.args.self.named c.args.self.counted c.args.carried
    c.name.result c.has_room.result c.name.ensures c.has_room.ensures c.if-not-has_room.true

pub returns : goal.returns
returns c =
    goes_in_last c.args.self.slots.entries c.in_ok-incoming.incoming.rows.slots.entries
    c.in_ok-lives.lives.slots.entries c.args.self.counts.entries c.args.carried c.name.result
    c.in_ok-incoming.incoming.name c.in_ok-incoming.incoming.live c.has_room.result c.name.ensures c.has_room.ensures
    c.if-not-has_room.false (ap (λ (slots : _). slots.entries) c.in_ok-incoming.ensures.slots)
    c.in_ok-incoming.ensures.name c.in_ok-incoming.ensures.live c.in_ok-lives.ensures.entries
