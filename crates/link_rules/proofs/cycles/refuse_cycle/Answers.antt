use Rattle.std.proofs.Common.{◌≡◌, ℕ, Option, map, get_or, Some, w64, to_z, of_z, refl, sym, ap, subst, ◌∙◌, arith}
use Rattle.std.specs.Prelude.{ℤ}
use Rattle.std.proofs.lemmas.Int.{to_z-of_z, ints}
use Rattle.std.specs.Option.{IfSome, IfNone}
use Rattle.link_graph.specs.Links.{IsFirstOnCycle, HasNoCycle}
use Rattle.link_rules.specs.LinkFaults.{fault}
use Rattle.link_rules.specs.CycleNodes.{child_places}
use Rattle.link_rules.proofs.CycleLemmas.{range_of, first_within, first_named, none_at_fault}
use Rattle.link_rules.proofs.cycles.refuse_cycle.Goals as goal

pub first_on_cycle-requires-clause-in_range : goal.first_on_cycle-requires-clause-in_range
first_on_cycle-requires-clause-in_range g c =
    range_of g.E.Linking.node c.args.entities.now c.args.known.now c.requires.resolves
    (map child_places c.as_slice.result.now) (ap (map child_places) c.as_slice.ensures ∙ c.in_ok-nodes.ensures)

pub bounds-entities-place : goal.bounds-entities-place
bounds-entities-place g c =
    let ls = map child_places c.as_slice.result.now in
    first_within g.E.Linking.node c.args.entities.now c.args.known.now c.requires.resolves
    ls (ap (map child_places) c.as_slice.ensures ∙ c.in_ok-nodes.ensures) c.in-Some.place
    (subst (λ (found : Option ℕ). IfSome found (IsFirstOnCycle ls)) c.in-Some.is c.in_ok-place.ensures.first)

pub offset_bounds-entities-place : goal.offset_bounds-entities-place
offset_bounds-entities-place g c =
    let ls = map child_places c.as_slice.result.now in
    let within =
    first_within g.E.Linking.node c.args.entities.now c.args.known.now c.requires.resolves
    ls (ap (map child_places) c.as_slice.ensures ∙ c.in_ok-nodes.ensures) c.in-Some.place
    (subst (λ (found : Option ℕ). IfSome found (IsFirstOnCycle ls)) c.in-Some.is c.in_ok-place.ensures.first) in
    omega (arith, within)

pub returns-in-Some : goal.returns-in-Some
returns-in-Some g c =
    let ls = map child_places c.as_slice.result.now in
    let node = g.E.Linking.node in
    let first = subst (λ (found : Option ℕ). IfSome found
    (IsFirstOnCycle ls)) c.in-Some.is c.in_ok-place.ensures.first in
    let named =
    first_named node c.args.entities.now c.args.known.now c.requires.resolves
    ls (ap (map child_places) c.as_slice.ensures ∙ c.in_ok-nodes.ensures) c.args.number c.in-Some.place
    c.index-entities-place.result first in
    let id : (node (get_or c.args.entities.now c.in-Some.place c.index-entities-place.result)).id ≡ c.own_id.result =
    ap (λ e. (node e).id) (sym c.index-entities-place.is) ∙ sym c.own_id.ensures in
    let same : to_z w64 (of_z w64 c.own_id.result) ≡ c.own_id.result =
    grind (arith, ints, to_z-of_z, c.own_id.type_inv) in
    named ∙ ap (λ (value : ℤ). Some (fault c.args.number 0 value)) (id ∙ sym same)

pub returns : goal.returns
returns g c =
    let ls = map child_places c.as_slice.result.now in (
      none_at_fault g.E.Linking.node c.args.entities.now c.args.known.now c.requires.resolves
          ls (ap (map child_places) c.as_slice.ensures ∙ c.in_ok-nodes.ensures) c.args.number
          (subst (λ (found : Option ℕ). IfNone found (HasNoCycle ls)) c.in-None.is c.in_ok-place.ensures.none),
      refl,
    )
