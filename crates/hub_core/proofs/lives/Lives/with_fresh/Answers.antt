-- What came in is put in under its name.
use Rattle.hub_core.proofs.CommandLemmas.{goes_in}
use Rattle.hub_core.proofs.lives.Lives.with_fresh.Goals as goal

pub with_live-requires : goal.with_live-requires
with_live-requires c =
    rw (c.in_ok-incoming.ensures.name, c.in_ok-incoming.ensures.slots, c.in_ok-incoming.ensures.counts) c.requires.room

pub returns : goal.returns
returns c =
    goes_in c.args.clock.time c.args.books.now c.args.accepted c.args.self c.in_ok-incoming.incoming.live
    c.with_live.result c.in_ok-incoming.ensures.fresh c.in_ok-incoming.ensures.carries.config
    (rw (c.in_ok-incoming.ensures.name, c.in_ok-incoming.ensures.slots) at c.with_live.ensures.slots)
    (rw (c.in_ok-incoming.ensures.name, c.in_ok-incoming.ensures.slots, c.in_ok-incoming.ensures.counts)
    at c.with_live.ensures.counts)
