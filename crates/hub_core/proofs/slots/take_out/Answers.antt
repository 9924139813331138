-- The entry went out by its name, and is noted no more.
use Rattle.std.proofs.Common.{subst, sym}
use Rattle.std.specs.Prelude.{◌≡◌, ◌+◌, ◌&&◌, is_some, if◌then◌else◌}
use Rattle.std.specs.Ordering.{int_eq}
use Rattle.hub_core.specs.Slots.{slot_at, held_by}
use Rattle.hub_core.proofs.HeldLemmas.{held-swap_remove}
use Rattle.hub_core.proofs.NotedLemmas.{noted_out}
use Rattle.hub_core.proofs.slots.take_out.Goals as goal

pub returns-clause-held : goal.returns-clause-held
returns-clause-held c = λ uid.
    subst (λ l. held_by uid l + (if int_eq c.args.name.uid uid && is_some
    (slot_at c.args.name c.args.slots.now.entries) then 1 else 0)
    ≡ held_by uid c.args.slots.now.entries) (sym c.swap_remove.ensures.entries)
    (held-swap_remove uid c.args.name c.args.slots.now.entries)

pub returns-clause-noted : goal.returns-clause-noted
returns-clause-noted c = λ noted.
    noted_out c.args.name c.args.slots.now.entries c.swap_remove.new.self.entries c.forget.new.notes
    (c.forget.ensures noted) c.swap_remove.ensures.updates.0
