-- Lemmas for callers: what marks, and the first place on a cycle, say of a search to a depth.
use Rattle.std.proofs.Common.{◌≡◌, ℕ, zero, suc, ◌<◌, Bool, true, false, List, [], ◌∷◌, length, Some, None, slice_get, refl, sym, ap, subst, ◌∙◌, arith}
use Rattle.std.specs.Prelude.{ℤ}
use Rattle.std.specs.List.{find}
use Rattle.std.proofs.lemmas.Option.{slice_get_within}
use Rattle.std.proofs.lemmas.Bool.Decides.{same_from_decides}
use Rattle.link_graph.specs.Reaches.{Reaches}
use Rattle.link_graph.specs.Links.{Refers, IsFirstOnCycle, HasNoCycle, MarksReached}
use Rattle.link_graph.specs.Search.{mark_of}
use Rattle.link_graph.specs.Within.{leads_within}
use Rattle.link_graph.specs.Ids.{IdNode, RefersById, reaches_by_id, first_to_reach_itself, node_id, Resolves}
use Rattle.link_graph.proofs.IdsReach.{reaches_found, found_reaches, reaches_leads, leads_reaches}
use Rattle.link_graph.proofs.IdsLaws.{first_by_id, itself_by_place}

-- a test that holds exactly where a fact does is false where it doesn't hold
fails : (b : Bool) {P : Type 0} → (b ≡ true → P) → (P → ⊥) → b ≡ false
fails true says not = absurd (not (says refl))
fails false says not = refl

-- the marks of what a place reaches are what a search from it finds
pub marks_within : (links : List (List ℕ)) (from : ℕ) (marks : List Bool) → MarksReached links from marks
    → (y : ℕ) → y < length links → mark_of marks y ≡ leads_within (length links) links from y
marks_within links from marks are y here =
    let fact = are.reached y here in
    same_from_decides _ _ fact (leads_reaches links from y, reaches_leads links from y)

-- the id at a place is that of the entity there
id_there : (es : List IdNode) (x : ℕ) (e : IdNode) → slice_get es x ≡ Some e → node_id es x ≡ e.id
id_there [] x e at = cc
id_there (first ∷ es) zero e at = let same : first ≡ e = cc in ap (λ (n : IdNode). n.id) same
id_there (first ∷ es) (suc x) e at = id_there es x e at

-- the first that passes stands at a place where it does and none before it does
find_first : (test : IdNode → Bool) (es : List IdNode) (x : ℕ) (e : IdNode) → slice_get es x ≡ Some e
    → test e ≡ true → ((y : ℕ) (n : IdNode) → y < x → slice_get es y ≡ Some n → test n ≡ false) → find test es ≡ Some e
find_first test [] x e at passes first = cc
find_first test (n ∷ es) zero e at passes first =
    let same : n ≡ e = cc in
    let here : test n ≡ true = ap test same ∙ passes in
    cc
find_first test (n ∷ es) (suc x) e at passes first =
    let here : test n ≡ false = first 0 n (omega arith) refl in
    let later = find_first test es x e at passes (λ y m lower there. first (suc y) m (omega arith) there) in
    cc

find_none : (test : IdNode → Bool) (es : List IdNode)
    → ((y : ℕ) (n : IdNode) → slice_get es y ≡ Some n → test n ≡ false) → find test es ≡ None
find_none test [] none = refl
find_none test (n ∷ es) none =
    let here : test n ≡ false = none 0 n refl in
    let later = find_none test es (λ y m there. none (suc y) m there) in
    cc

module _ (entities : List IdNode) (links : List (List ℕ)) (resolves : Resolves entities links) where
  -- an entity's own id reaches itself where its place does
  by_place : (x : ℕ) (e : IdNode) → slice_get entities x ≡ Some e → x < length entities
      → reaches_by_id entities e.id e.id ≡ true → Reaches (Refers links) x x
  by_place x e at here is =
      itself_by_place entities links resolves x here
      (subst (λ (id : ℤ). Reaches (RefersById entities) id id) (sym (id_there entities x e at))
      (found_reaches entities e.id e.id is))

  -- the first place on a cycle is that of the entity which a search by ids names
  pub cycle_named : (x : ℕ) (e : IdNode) → IsFirstOnCycle links x → slice_get entities x ≡ Some e
      → first_to_reach_itself entities ≡ Some e
  cycle_named x e is_first at =
      let by_id = first_by_id entities links resolves x is_first in
      find_first (λ (n : IdNode). reaches_by_id entities n.id n.id) entities x e at
      (reaches_found entities e.id e.id
      (subst (λ (id : ℤ). Reaches (RefersById entities) id id) (id_there entities x e at) by_id.on_cycle))
      (λ y n lower there.
      fails (reaches_by_id entities n.id n.id)
      (λ is. by_place y n there (omega (arith, lower, by_id.here)) is) (is_first.first y lower))

  -- where no place reaches itself, it names none
  pub none_named : HasNoCycle links → first_to_reach_itself entities ≡ None
  none_named no_cycle =
      find_none (λ (n : IdNode). reaches_by_id entities n.id n.id) entities
      (λ y n there.
      fails (reaches_by_id entities n.id n.id)
      (λ is. by_place y n there (slice_get_within entities y n there) is) (no_cycle y))
