-- A search to a depth by ids, and between places, finds what is reached.
use Rattle.std.proofs.Common.{◌≡◌, ℕ, zero, suc, ◌<◌, ◌≤◌, ◌⊎◌, inl, inr, Bool, true, false, List, [], ◌∷◌, length, map, Some, slice_get, if◌then◌else◌, eqb, refl, sym, ap, subst, ◌∙◌, arith}
use Rattle.std.specs.Prelude.{ℤ}
use Rattle.std.specs.Ordering.{int_eq}
use Rattle.std.specs.Cmp.{int_eq_equiv, nat_eq_equiv}
use Rattle.std.specs.List.{Contains, list_any}
use Rattle.std.proofs.lemmas.Bool.{cases_eq, or_cases, or_left, or_right, false≢true}
use Rattle.std.proofs.lemmas.Bool.Decides.{Decides-int_eq, Decides-eqb}
use Rattle.std.proofs.lemmas.List.{length-map}
use Rattle.std.proofs.lemmas.List.Folds.{list_any-append}
use Rattle.std.proofs.lemmas.Map.Views.{Contains-from_any, list_any-from_Contains}
use Rattle.std.proofs.lemmas.Option.{slice_get_read}
use Rattle.link_graph.specs.Reaches.{Reaches}
use Rattle.link_graph.specs.Links.{children_at, Refers}
use Rattle.link_graph.specs.Within.{leads_within}
use Rattle.link_graph.specs.Ids.{IdNode, RefersById, named_by, reaches_by_id}
use Rattle.link_graph.proofs.ReachesLaws.{reaches_once, reaches_mapped}
use Rattle.link_graph.proofs.DepthLaws.{reaches_from_within}
use Rattle.link_graph.proofs.DepthSearch.{sound, found, Names}
use Rattle.link_graph.proofs.NodeLemmas.{Contains_first, Contains_later, Contains-map}

-- an id is one of these
abbrev among : ℤ → List ℤ → Bool
among x ids = list_any (int_eq x) ids

equal : (x y : ℤ) → int_eq x y ≡ true → x ≡ y
equal x y e = (Decides-int_eq x y).0 e

-- what one entity names, if it has the id
abbrev named_if : Bool → List ℤ → List ℤ
named_if has named = if has then named else []

among_if : (has : Bool) (y : ℤ) (named : List ℤ) → has ≡ true → among y named ≡ true
    → among y (named_if has named) ≡ true
among_if true y named has there = there
among_if false y named has there = absurd (false≢true has)

if_among : (has : Bool) (y : ℤ) (named : List ℤ) → among y (named_if has named) ≡ true
    → (has ≡ true) × (among y named ≡ true)
if_among true y named there = (refl, there)
if_among false y named there = absurd (false≢true there)

-- an id that an entity names is named by that entity's id
to_named : (es : List IdNode) (x y : ℤ) (e : IdNode) (k : ℕ) → slice_get es k ≡ Some e → e.id ≡ x
    → among y e.named ≡ true → among y (named_by es x) ≡ true
to_named [] x y e k at is there = cc
to_named (first ∷ es) x y e zero at is there =
    let same : first ≡ e = cc in
    let has : int_eq first.id x ≡ true =
    (Decides-int_eq first.id x).1 (ap (λ (n : IdNode). n.id) same ∙ is) in
    let named : among y first.named ≡ true = subst (λ (n : IdNode). among y n.named ≡ true) (sym same) there in
    list_any-append (int_eq y) (named_if (int_eq first.id x) first.named) (named_by es x)
    ∙ or_left _ _ (among_if (int_eq first.id x) y first.named has named)
to_named (first ∷ es) x y e (suc k) at is there =
    list_any-append (int_eq y) (named_if (int_eq first.id x) first.named) (named_by es x)
    ∙ or_right _ _ (to_named es x y e k at is there)

-- and the other way round
from_named : (es : List IdNode) (x y : ℤ) → among y (named_by es x) ≡ true
    → (e : IdNode) × Contains es e × (e.id ≡ x) × (among y e.named ≡ true)
from_named [] x y there = absurd (false≢true there)
from_named (first ∷ es) x y there =
    let cases : (among y (named_if (int_eq first.id x) first.named) ≡ true) ⊎ (among y (named_by es x) ≡ true) =
    or_cases _ _ (sym (list_any-append (int_eq y) (named_if (int_eq first.id x) first.named) (named_by es x))
    ∙ there) in
    elim cases [
      | inl here ↦
          let parts = if_among (int_eq first.id x) y first.named here in
          (first, Contains_first first es, equal first.id x parts.0, parts.1)
      | inr later ↦
          let found = from_named es x y later in
          (found.0, Contains_later first es found.0 found.1, found.2, found.3)
    ]

module _ (entities : List IdNode) where
  abbrev refers : ℤ → ℤ → Type 0
  refers = RefersById entities

  -- the references that the search follows
  abbrev names : ℤ → ℤ → Type 0
  names = Names int_eq Decides-int_eq (named_by entities)

  -- a reference by ids is one that the search follows
  refers_named : (x y : ℤ) → refers x y → names x y
  refers_named x y r =
      let k = r.is_there.0 in
      let at : slice_get entities k ≡ Some r.entity =
      slice_get_read entities (length entities) k r.entity refl r.is_there.1 (sym r.is_there.2) in
      to_named entities x y r.entity k at r.has_id (list_any-from_Contains int_eq_equiv y r.entity.named r.names)

  named_refers : (x y : ℤ) → names x y → refers x y
  named_refers x y there =
      let from = from_named entities x y there in
      record {
        entity = from.0;
        is_there = from.1;
        has_id = from.2;
        names = Contains-from_any equal y from.0.named from.3;
      }

  abbrev ids_of : List ℤ
  ids_of = map (λ (entity : IdNode). entity.id) entities

  -- what refers to another is an entity
  source : (x y : ℤ) → names x y → among x ids_of ≡ true
  source x y there =
      let r = named_refers x y there in
      list_any-from_Contains int_eq_equiv x ids_of
      (subst (λ (id : ℤ). Contains ids_of id) r.has_id
      (Contains-map (λ (entity : IdNode). entity.id) entities r.entity r.is_there))

  -- the search by ids says whether a list of references leads from x to y
  pub reaches_found : (x y : ℤ) → Reaches refers x y → reaches_by_id entities x y ≡ true
  unfolding reaches_by_id
  reaches_found x y w =
      let few : length ids_of ≤ length entities = omega (arith, length-map entities (λ (entity : IdNode). entity.id)) in
      found int_eq Decides-int_eq (named_by entities) ids_of source (length entities) few x y
      (reaches_mapped refers names (λ id. id) refers_named x y w)

  pub found_reaches : (x y : ℤ) → reaches_by_id entities x y ≡ true → Reaches refers x y
  unfolding reaches_by_id
  found_reaches x y is =
      reaches_mapped names refers (λ id. id) named_refers x y
      (sound int_eq Decides-int_eq (named_by entities) (length entities) x y is)

-- the places below an end
abbrev below : ℕ → List ℕ
below zero = []
below (suc n) = n ∷ below n

length-below : (n : ℕ) → length (below n) ≡ n
length-below zero = refl
length-below (suc n) = omega (arith, length-below n)

among_below : (n x : ℕ) → x < n → list_any (eqb x) (below n) ≡ true
among_below zero x here = absurd (omega arith)
among_below (suc n) x here =
    elim (cases_eq x n) [
      | inl same ↦ or_left _ _ ((Decides-eqb x n).1 same)
      | inr other ↦ or_right _ _ (among_below n x (omega arith))
    ]

module _ (links : List (List ℕ)) where
  -- the references that the search follows
  abbrev leads : ℕ → ℕ → Type 0
  leads = Names eqb Decides-eqb (children_at links)

  refers_lead : (x y : ℕ) → Refers links x y → leads x y
  refers_lead x y r = list_any-from_Contains nat_eq_equiv y (children_at links x) r

  lead_refers : (x y : ℕ) → leads x y → Refers links x y
  lead_refers x y there = Contains-from_any (λ a b e. (Decides-eqb a b).0 e) y (children_at links x) there

  -- what refers to another is a place
  place : (x y : ℕ) → leads x y → list_any (eqb x) (below (length links)) ≡ true
  place x y there =
      among_below (length links) x
      (reaches_from_within links x y (reaches_once (Refers links) x y (lead_refers x y there)))

  -- the search says whether a list of references leads from x to y
  pub reaches_leads : (x y : ℕ) → Reaches (Refers links) x y → leads_within (length links) links x y ≡ true
  reaches_leads x y w =
      found eqb Decides-eqb (children_at links) (below (length links)) place (length links)
      (omega (arith, length-below (length links))) x y
      (reaches_mapped (Refers links) leads (λ at. at) refers_lead x y w)

  pub leads_reaches : (x y : ℕ) → leads_within (length links) links x y ≡ true → Reaches (Refers links) x y
  leads_reaches x y is =
      reaches_mapped leads (Refers links) (λ at. at) lead_refers x y
      (sound eqb Decides-eqb (children_at links) (length links) x y is)
