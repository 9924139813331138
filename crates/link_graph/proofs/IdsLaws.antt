-- Lists of references by ids and by places are the same lists.
use Rattle.std.proofs.Common.{◌≡◌, ℕ, ◌<◌, List, [], ◌∷◌, length, map, get_or, Some, refl, sym, ap, subst, ◌∙◌, arith}
use Rattle.std.specs.Prelude.{ℤ, pos}
use Rattle.std.specs.List.{Contains, slice_get}
use Rattle.std.proofs.lemmas.List.{get_or-map, length-map}
use Rattle.std.proofs.lemmas.List.Elements.{Contains-get_or}
use Rattle.std.proofs.lemmas.Option.{slice_get-get_or, get_or_from_slice_get, slice_get_read}
use Rattle.link_graph.specs.Reaches.{Leads, Reaches}
use Rattle.link_graph.specs.Links.{children_at, Refers, IsFirstOnCycle}
use Rattle.link_graph.specs.Ids.{IdNode, RefersById, node_id, Resolves, IsFirstOnCycleById}
use Rattle.link_graph.proofs.ReachesLaws.{reaches_once, reaches_first, reaches_mapped}
use Rattle.link_graph.proofs.DepthLaws.{reaches_from_within}
use Rattle.link_graph.proofs.NodeLemmas.{Contains-map}

-- and the other way round
Contains-unmap : {X Y : Type 0} (f : X → Y) (d : X) (xs : List X) (y : Y) → Contains (map f xs) y
    → (x : X) × Contains xs x × (f x ≡ y)
Contains-unmap f d xs y c =
    let inside : c.0 < length xs = omega (arith, c.1, length-map xs f) in
    (get_or xs c.0 d, Contains-get_or xs c.0 d inside, sym (get_or-map f xs c.0 d y inside) ∙ c.2)

module _ (entities : List IdNode) (links : List (List ℕ)) (resolves : Resolves entities links) where
  id_of : (x : ℕ) (entity : IdNode) → slice_get entities x ≡ Some entity → x < length entities
      → node_id entities x ≡ entity.id
  id_of x entity e here =
      get_or-map (λ (entity : IdNode). entity.id) entities x entity (pos 0) here
      ∙ ap (λ (entity : IdNode). entity.id) (get_or_from_slice_get entities x entity entity e)

  -- a reference between places is one between their ids
  by_id : (x y : ℕ) → Refers links x y → RefersById entities (node_id entities x) (node_id entities y)
  by_id x y r =
      let here : x < length entities =
      omega (arith, reaches_from_within links x y (reaches_once (Refers links) x y r), resolves.each) in
      let none : IdNode = record { id = pos 0; named = [] } in
      let entity : IdNode = get_or entities x none in
      let found : slice_get entities x ≡ Some entity = slice_get-get_or entities x none here in
      record {
        entity = entity;
        is_there = Contains-get_or entities x none here;
        has_id = sym (id_of x entity found here);
        names = subst (λ (ids : List ℤ). Contains ids (node_id entities y)) (resolves.places x entity found)
            (Contains-map (node_id entities) (children_at links x) y r);
      }

  -- a reference from an id is one from its place
  by_place : (x : ℕ) (b : ℤ) → x < length entities → RefersById entities (node_id entities x) b
      → (y : ℕ) × Refers links x y × (node_id entities y ≡ b)
  by_place x b here r =
      let k = r.is_there.0 in
      let in_entities : k < length entities = r.is_there.1 in
      let found : slice_get entities k ≡ Some r.entity =
      slice_get_read entities (length entities) k r.entity refl in_entities (sym r.is_there.2) in
      let same : k ≡ x = resolves.apart k x in_entities here (id_of k r.entity found in_entities ∙ r.has_id) in
      let at_x : slice_get entities x ≡ Some r.entity =
      subst (λ (i : ℕ). slice_get entities i ≡ Some r.entity) same found in
      let named : Contains (map (node_id entities) (children_at links x)) b =
      subst (λ (ids : List ℤ). Contains ids b) (sym (resolves.places x r.entity at_x)) r.names in
      Contains-unmap (node_id entities) 0 (children_at links x) b named

  lead_by_place : (x : ℕ) (via : List ℤ) (b : ℤ) → x < length entities
      → Leads (RefersById entities) (node_id entities x) via b
      → (y : ℕ) × Reaches (Refers links) x y × (y < length entities) × (node_id entities y ≡ b)
  lead_by_place x [] b here r =
      let one = by_place x b here r in
      (one.0, reaches_once (Refers links) x one.0 one.1, resolves.in_range x one.0 one.1, one.2)
  lead_by_place x (next ∷ via) b here r =
      let one = by_place x next here r.0 in
      let on : Leads (RefersById entities) (node_id entities one.0) via b =
      subst (λ (at : ℤ). Leads (RefersById entities) at via b) (sym one.2) r.1 in
      let rest = lead_by_place one.0 via b (resolves.in_range x one.0 one.1) on in
      (rest.0, reaches_first (Refers links) x one.0 rest.0 one.1 rest.1, rest.2, rest.3)

  -- what reaches itself by its id does so by its place
  pub itself_by_place : (x : ℕ) → x < length entities
      → Reaches (RefersById entities) (node_id entities x) (node_id entities x) → Reaches (Refers links) x x
  itself_by_place x here w =
      let down = lead_by_place x w.0 (node_id entities x) here w.1 in
      subst (λ (y : ℕ). Reaches (Refers links) x y) (resolves.apart down.0 x down.2 here down.3) down.1

  pub itself_by_id : (x : ℕ) → Reaches (Refers links) x x
      → Reaches (RefersById entities) (node_id entities x) (node_id entities x)
  itself_by_id x w = reaches_mapped (Refers links) (RefersById entities) (node_id entities) by_id x x w

  -- the first place on a cycle is that of the first entity on one
  pub first_by_id : (x : ℕ) → IsFirstOnCycle links x → IsFirstOnCycleById entities x
  first_by_id x first =
      let within : x < length entities = omega (arith, reaches_from_within links x x first.on_cycle, resolves.each) in
      record {
        here = within;
        on_cycle = itself_by_id x first.on_cycle;
        first = λ y lower w. first.first y lower (itself_by_place y (omega arith) w);
      }
