-- What stood under the name is noted no more.
use Rattle.std.proofs.Common.{sym}
use Rattle.hub_core.proofs.NotedLemmas.{forgotten, forgotten_none}
use Rattle.hub_core.proofs.slots.forget.Goals as goal

pub returns-in-Some : goal.returns-in-Some
returns-in-Some c = λ noted.
    forgotten c.args.name c.args.slots.now.entries c.args.notes.now c.remove.new.self c.in-Some.live.now
    (sym c.in-Some.ensures.value) noted c.remove.ensures.under c.remove.ensures.for_all

pub returns-in_default : goal.returns-in_default
returns-in_default c = λ noted.
    forgotten_none c.args.name c.args.slots.now.entries c.args.notes.now (sym c.in_default.ensures.value) noted
