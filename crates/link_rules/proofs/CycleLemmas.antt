-- Where the names of a kind lead somewhere, its entities have places, and cycles by ids are those by places.
use Rattle.std.proofs.Common.{◌≡◌, ℕ, zero, suc, ◌<◌, ◌⊎◌, Bool, true, false, List, [], ◌∷◌, length, map, get_or, Option, Some, None, slice_get, if◌then◌else◌, inl, inr, refl, sym, ap, subst, ◌∙◌, arith}
use Rattle.std.specs.Prelude.{ℤ, pos}
use Rattle.std.specs.Ordering.{int_eq}
use Rattle.std.specs.Option.{option_map, option_and_then, unwrap_or}
use Rattle.std.specs.List.{Contains, list_any, find, AllByRecursion}
use Rattle.std.proofs.lemmas.Bool.{cases_lt}
use Rattle.std.proofs.lemmas.Bool.Decides.{Decides-int_eq}
use Rattle.std.proofs.lemmas.List.{length-map, get_or-map}
use Rattle.std.proofs.lemmas.List.Elements.{Contains-append_cases, Contains-push_cases}
use Rattle.std.proofs.lemmas.Option.{slice_get_within, get_or_from_slice_get, slice_get-get_or}
use Rattle.distinct.specs.Places.{first_place}
use Rattle.distinct.specs.Repeats.{repeat_in}
use Rattle.distinct.proofs.PlaceLemmas.{found_at}
use Rattle.distinct.proofs.ApartLemmas.{apart_without_repeat}
use Rattle.link_graph.specs.Links.{children_at, Refers, AreInRange, HasNoCycle, IsFirstOnCycle}
use Rattle.link_graph.specs.Ids.{IdNode, RefersById, node_id, reaches_by_id, first_to_reach_itself}
use Rattle.link_graph.proofs.NodeLemmas.{children_of, children_past}
use Rattle.link_graph.proofs.IdsLaws.{first_by_id, itself_by_id}
use Rattle.link_graph.proofs.IdsReach.{reaches_found}
use Rattle.link_graph.proofs.DepthLaws.{reaches_from_within}
use Rattle.link_graph.specs.Reaches.{Reaches}
use Rattle.link_graph.proofs.CallerLemmas.{cycle_named, none_named}
use Rattle.link_rules.specs.LinkFaults.{fault}
use Rattle.link_rules.specs.EntityIds.{place_in}
use Rattle.link_rules.specs.Cycles.{cycle_in, places_of}
use Rattle.link_rules.specs.CycleNodes.{ResolvesIn}

-- an id is one of these
abbrev IsKnown : List ℤ → ℤ → Type 0
IsKnown known id = list_any (int_eq id) known ≡ true

map_itself : {A : Type 0} (xs : List A) → map (λ x. x) xs ≡ xs
map_itself [] = refl
map_itself (x ∷ xs) = ap (λ more. x ∷ more) (map_itself xs)

finds_step : (same : Bool) (id first : ℤ) (known : List ℤ) → int_eq id first ≡ same → IsKnown (first ∷ known) id
    → (IsKnown known id → find (int_eq id) known ≡ Some id) → find (int_eq id) (first ∷ known) ≡ Some id
finds_step true id first known same is later =
    let one : id ≡ first = (Decides-int_eq id first).0 same in
    cc
finds_step false id first known same is later =
    let among : IsKnown known id = cc in
    let more = later among in
    cc

finds_it : (known : List ℤ) (id : ℤ) → IsKnown known id → find (int_eq id) known ≡ Some id
finds_it [] id is = absurd (cc)
finds_it (first ∷ known) id is =
    finds_step (int_eq id first) id first known refl is (finds_it known id)

at_place : (known : List ℤ) (id : ℤ) (place : Option ℕ) → option_and_then (slice_get known) place ≡ Some id
    → slice_get known (unwrap_or place 0) ≡ Some id
at_place known id None h = absurd (cc)
at_place known id (Some place) h = h

-- at the place of an id that is known stands the id
pub stands_at : (known : List ℤ) (id : ℤ) → IsKnown known id → slice_get known (place_in known id) ≡ Some id
stands_at known id is =
    at_place known id (first_place (int_eq id) known)
    (ap (λ (ids : List ℤ). option_and_then (slice_get known) (first_place (int_eq id) ids)) (sym (map_itself known))
    ∙ found_at (int_eq id) (λ x. x) known ∙ finds_it known id is)

-- each that is named is known
abbrev pub AreKnown : List ℤ → List IdNode → Type 0
AreKnown known nodes = AllByRecursion (λ (node : IdNode). AllByRecursion (IsKnown known) node.named) nodes

abbrev ids_of : List IdNode → List ℤ
ids_of nodes = map (λ (node : IdNode). node.id) nodes

-- the ids at the places of those that are named are those that are named
named_again : (nodes : List IdNode) (known : List ℤ) → known ≡ ids_of nodes → (named : List ℤ)
    → AllByRecursion (IsKnown known) named → map (node_id nodes) (map (place_in known) named) ≡ named
named_again nodes known are [] all = refl
named_again nodes known are (id ∷ named) all =
    let at : slice_get (ids_of nodes) (place_in known id) ≡ Some id =
    subst (λ (ids : List ℤ). slice_get ids (place_in known id) ≡ Some id) are (stands_at known id all.0) in
    let here : node_id nodes (place_in known id) ≡ id =
    get_or_from_slice_get (ids_of nodes) (place_in known id) id (pos 0) at in
    let later = named_again nodes known are named all.1 in
    cc

node_known : (known : List ℤ) (nodes : List IdNode) → AreKnown known nodes → (x : ℕ) (node : IdNode)
    → slice_get nodes x ≡ Some node → AllByRecursion (IsKnown known) node.named
node_known known [] all x node at = absurd (cc)
node_known known (first ∷ nodes) all zero node at =
    let same : first ≡ node = cc in
    subst (λ (n : IdNode). AllByRecursion (IsKnown known) n.named) same all.0
node_known known (first ∷ nodes) all (suc x) node at = node_known known nodes all.1 x node at

only : (x y : ℕ) → Contains (x ∷ []) y → x ≡ y
only x y c = elim (Contains-push_cases [] x y c) [ inl none ↦ absurd (omega (arith, none.1)) | inr last ↦ last ]

-- what stands in a list is its first, or stands after it
first_or_later : (x : ℕ) (xs : List ℕ) (y : ℕ) → Contains (x ∷ xs) y → (x ≡ y) ⊎ Contains xs y
first_or_later x xs y c =
    elim (Contains-append_cases (x ∷ []) xs y c) [
      | inl here ↦ inl (only x y here)
      | inr later ↦ inr later
    ]

-- what is named by ids that are known has a place below their number
place_below : (known named : List ℤ) → AllByRecursion (IsKnown known) named → (y : ℕ)
    → Contains (map (place_in known) named) y → y < length known
place_below known [] all y c = absurd (omega (arith, c.1))
place_below known (id ∷ named) all y c =
    elim (first_or_later (place_in known id) (map (place_in known) named) y c) [
      | inl here ↦
          subst (λ (at : ℕ). at < length known) here
          (slice_get_within known (place_in known id) id (stands_at known id all.0))
      | inr later ↦ place_below known named all.1 y later
    ]

module _ (nodes : List IdNode) (known : List ℤ) (are : known ≡ ids_of nodes) (all : AreKnown known nodes) where
  abbrev links : List (List ℕ)
  links = map (places_of known) nodes

  as_many : length known ≡ length nodes
  as_many = ap length are ∙ length-map nodes (λ (node : IdNode). node.id)

  -- each place that is named is there
  named_below : (x y : ℕ) → Refers links x y → y < length nodes
  named_below x y r = by_node (slice_get nodes x) refl where
    by_node : (found : Option IdNode) → slice_get nodes x ≡ found → y < length nodes
    by_node None at =
        let none : children_at links x ≡ [] = children_past (places_of known) nodes x at in
        let named : Contains [] y = subst (λ (ys : List ℕ). Contains ys y) none r in
        absurd (omega (arith, named.1))
    by_node (Some node) at =
        let named : Contains (places_of known node) y =
        subst (λ (ys : List ℕ). Contains ys y) (children_of (places_of known) nodes x node at) r in
        let below : y < length known = place_below known node.named (node_known known nodes all x node at) y named in
        omega (arith, below, as_many)

  -- where no two ids are equal, the entities have their places
  pub resolves : repeat_in int_eq known ≡ None → ResolvesIn known nodes
  resolves none = record {
    each = length-map nodes (places_of known);
    apart = λ x y in_x in_y same.
        let ids = apart_without_repeat int_eq Decides-int_eq known none in
        let at_x : get_or known x (pos 0) ≡ node_id nodes x = ap (λ (ks : List ℤ). get_or ks x (pos 0)) are in
        let at_y : get_or known y (pos 0) ≡ node_id nodes y = ap (λ (ks : List ℤ). get_or ks y (pos 0)) are in
        elim (cases_lt x y) [
          | inl below ↦ absurd (ids x y (pos 0) below (omega (arith, in_y, as_many)) (at_x ∙ same ∙ sym at_y))
          | inr above ↦ elim (cases_lt y x) [
            | inl below ↦
                absurd (ids y x (pos 0) below (omega (arith, in_x, as_many)) (at_y ∙ sym same ∙ sym at_x))
            | inr equal ↦ omega arith
          ]
        ];
    in_range = named_below;
    places = λ x node at.
        ap (map (node_id nodes)) (children_of (places_of known) nodes x node at)
        ∙ named_again nodes known are node.named (node_known known nodes all x node at);
  }

-- entities of a kind, and the places that they name as a call has them
module _ {X : Type 0} (node : X → IdNode) (entities : List X) (known : List ℤ)
    (places : ResolvesIn known (map node entities)) (ls : List (List ℕ))
    (are : ls ≡ map (places_of known) (map node entities)) where
  abbrev named_links : List (List ℕ)
  named_links = map (places_of known) (map node entities)

  pub range_of : AreInRange ls
  range_of = subst AreInRange (sym are) (λ x y r. omega (arith, places.in_range x y r, places.each))

  first_of_links : (place : ℕ) → IsFirstOnCycle ls place → IsFirstOnCycle named_links place
  first_of_links place first = subst (λ (some : List (List ℕ)). IsFirstOnCycle some place) are first

  pub first_within : (place : ℕ) → IsFirstOnCycle ls place → place < length entities
  first_within place first =
      omega (
        arith,
        (first_by_id (map node entities) named_links places place
            (first_of_links place first)).here,
        length-map entities node,
      )

  -- the first place on a cycle is that of the entity at fault
  pub first_named : (number place : ℕ) (d : X) → IsFirstOnCycle ls place
      → cycle_in number (map node entities) ≡ Some (fault number 0 (node (get_or entities place d)).id)
  first_named number place d first =
      let here : place < length entities = first_within place first in
      let at : slice_get (map node entities) place ≡ Some (node (get_or entities place d)) =
      slice_get-get_or (map node entities) place (node d) (omega (arith, here, length-map entities node))
      ∙ ap (λ (n : IdNode). Some n) (get_or-map node entities place d (node d) here) in
      ap (option_map (λ (n : IdNode). fault number 0 n.id))
      (cycle_named (map node entities) named_links places place (node (get_or entities place d))
      (first_of_links place first) at)

  pub none_at_fault : (number : ℕ) → HasNoCycle ls → cycle_in number (map node entities) ≡ None
  none_at_fault number no_cycle =
      ap (option_map (λ (n : IdNode). fault number 0 n.id))
      (none_named (map node entities) named_links places (subst HasNoCycle are no_cycle))

none_later : (passes : Bool) (first : IdNode) (later : Option IdNode) → (if passes then Some first else later) ≡ None
    → later ≡ None
none_later true first later none = absurd (cc)
none_later false first later none = none

-- where a search in a list finds nothing, nothing in it passes
none_passes : (test : IdNode → Bool) (nodes : List IdNode) → find test nodes ≡ None → (x : ℕ) (node : IdNode)
    → slice_get nodes x ≡ Some node → test node ≡ true → ⊥
none_passes test [] none x node at is = absurd (cc)
none_passes test (first ∷ nodes) none zero node at is =
    let same : first ≡ node = cc in
    let passes : test first ≡ true = ap test same ∙ is in
    absurd (cc)
none_passes test (first ∷ nodes) none (suc x) node at is =
    none_passes test nodes (none_later (test first) first (find test nodes) none) x node at is

module _ (nodes : List IdNode) (known : List ℤ) (places : ResolvesIn known nodes) where
  -- where no entity is named as one that reaches itself, no place reaches itself
  pub no_cycle_of : first_to_reach_itself nodes ≡ None → HasNoCycle (map (places_of known) nodes)
  no_cycle_of none x w =
      let ls = map (places_of known) nodes in
      let here : x < length nodes = omega (arith, reaches_from_within ls x x w, places.each) in
      let empty : IdNode = record { id = pos 0; named = [] } in
      let node : IdNode = get_or nodes x empty in
      let at : slice_get nodes x ≡ Some node = slice_get-get_or nodes x empty here in
      let by_id = itself_by_id nodes ls places x w in
      let id : node_id nodes x ≡ node.id =
      get_or-map (λ (n : IdNode). n.id) nodes x node (pos 0) here
      ∙ ap (λ (n : IdNode). n.id) (get_or_from_slice_get nodes x node node at) in
      none_passes (λ (n : IdNode). reaches_by_id nodes n.id n.id) nodes none x node at
      (reaches_found nodes node.id node.id (subst (λ (z : ℤ). Reaches (RefersById nodes) z z) id by_id))
