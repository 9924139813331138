-- The name stands there, and no other row has it.
use Rattle.std.proofs.Common.{◌≡◌, true, Some, sym, ap, ◌∙◌, rules}
use Rattle.client_engine.specs.declared.live_id.LiveId.{LiveId}
use Rattle.hub_core.specs.Slots.{same_id}
use Rattle.hub_core.proofs.NamesLemmas.{same_is}
use Rattle.hub_core.proofs.PlaceLemmas.{stands_there}
use Rattle.hub_core.proofs.places.Places.of.Goals as goal

pub returns-then-eq : goal.returns-then-eq
returns-then-eq c =
    let own = c.in_ok-own.own.now in
    let live = c.in_ok-own.field-0-1.now in
    let same : same_id own c.args.name ≡ true = search (rules) in
    stands_there c.args.name live c.args.slots.now.entries c.in_ok-place.field-0.now c.len-len.ensures.unique
    (sym c.in_ok-own.ensures.entry
    ∙ ap (λ (name : LiveId). Some (name, live)) (same_is own c.args.name same))
