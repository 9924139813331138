-- The entry went in by its name, and is noted.
use Rattle.std.proofs.Common.{ap, ◌∙◌}
use Rattle.hub_core.specs.Slots.{held_by}
use Rattle.hub_core.proofs.HeldLemmas.{held-insert}
use Rattle.hub_core.proofs.NotedLemmas.{noted_in}
use Rattle.hub_core.proofs.slots.put.Goals as goal

pub returns-clause-held : goal.returns-clause-held
returns-clause-held c = λ uid. ap (held_by uid) c.in_ok-insert.ensures.entries
    ∙ held-insert uid c.args.name c.args.live c.args.slots.now.entries

pub returns-clause-noted : goal.returns-clause-noted
returns-clause-noted c = λ noted.
    noted_in c.args.name c.args.slots.now.entries c.insert.new.self.entries c.forget.new.notes
    c.add.new.self c.args.live
    (c.forget.ensures noted) c.in_ok-insert.ensures.updates.0 c.in_ok-add.ensures.under c.in_ok-add.ensures.for_all
