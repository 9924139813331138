-- That each way down ends: its length is bounded where no place reaches itself, and where there is an order.
use Rattle.std.proofs.Common.{◌≡◌, ℕ, zero, suc, ◌+◌, ◌-◌, ◌<◌, ◌≤◌, ◌⊎◌, true, false, eqb, List, [], ◌∷◌, length, get_or, sym, subst, inl, inr, arith, ◌∙◌}
use Rattle.std.specs.List.{Contains, IsDistinct, AllByRecursion, list_any}
use Rattle.std.proofs.lemmas.Bool.{cases_Bool, cases_lt, or_cases, or_parts, eqb-true, false≢true}
use Rattle.std.proofs.lemmas.List.{get_or_default, get_or-take, length-take, get_or_past}
use Rattle.std.proofs.lemmas.Map.Steps.{length-le_from_distinct_below}
use Rattle.link_graph.specs.Reaches.{Leads, Reaches}
use Rattle.link_graph.specs.Links.{children_at, Refers, AreInRange, HasNoCycle, IsFirstOnCycle, IsOrder}
use Rattle.link_graph.specs.Depth.{EndsWithin}
use Rattle.link_graph.proofs.ReachesLaws.{reaches_once, reaches_last}

module _ (links : List (List ℕ)) where
  -- the list of no reference is there, so the number is above 0
  pub ends_positive : (n x : ℕ) → EndsWithin links n x → 0 < n
  ends_positive zero x ends = absurd ends
  ends_positive (suc n) x ends = omega arith

  -- one reference down, one reference fewer
  pub ends_below_it : (n x y : ℕ) → EndsWithin links n x → Refers links x y → EndsWithin links (n - 1) y
  ends_below_it zero x y ends r = absurd ends
  ends_below_it (suc n) x y ends r =
      let same : n ≡ suc n - 1 = omega arith in
      subst (λ (k : ℕ). EndsWithin links k y) same (ends y r)

  pub ends_more : (n x : ℕ) → EndsWithin links n x → EndsWithin links (suc n) x
  ends_more zero x ends = absurd ends
  ends_more (suc n) x ends = λ y r. ends_more n y (ends y r)

  pub ends_add : (m n x : ℕ) → EndsWithin links n x → EndsWithin links (m + n) x
  ends_add zero n x ends = let same : n ≡ zero + n = omega arith in subst (λ (k : ℕ). EndsWithin links k x) same ends
  ends_add (suc m) n x ends =
      let same : suc (m + n) ≡ suc m + n = omega arith in
      subst (λ (k : ℕ). EndsWithin links k x) same (ends_more (m + n) x (ends_add m n x ends))

  pub ends_le : (m n x : ℕ) → m ≤ n → EndsWithin links m x → EndsWithin links n x
  ends_le m n x h ends =
      let same : (n - m) + m ≡ n = omega arith in
      subst (λ (k : ℕ). EndsWithin links k x) same (ends_add (n - m) m x ends)

  ends_along : (n x : ℕ) (via : List ℕ) (y : ℕ) → EndsWithin links (suc n) x → Leads (Refers links) x via y
      → EndsWithin links n y
  ends_along n x [] y ends r = ends y r
  ends_along zero x (next ∷ via) y ends r = absurd (ends next r.0)
  ends_along (suc n) x (next ∷ via) y ends r = ends_more n y (ends_along n next via y (ends next r.0) r.1)

  -- a place from which each list ends doesn't reach itself
  pub ends_apart : (n x : ℕ) → EndsWithin links n x → ¬ Reaches (Refers links) x x
  ends_apart zero x ends w = absurd ends
  ends_apart (suc n) x ends w = ends_apart n x (ends_along n x w.0 x ends w.1) w

  -- a place that is seen on the way down would reach itself
  unseen : HasNoCycle links → (seen : List ℕ) (x : ℕ)
      → ((y : ℕ) → list_any (eqb y) seen ≡ true → Reaches (Refers links) y x) → list_any (eqb x) seen ≡ false
  unseen apart seen x above =
      let cases = cases_Bool (list_any (eqb x) seen) in
      elim cases [ inl there ↦ absurd (apart x (above x there)) | inr none ↦ none ]

  extended : (seen : List ℕ) (x z : ℕ) → Refers links x z
      → ((y : ℕ) → list_any (eqb y) seen ≡ true → Reaches (Refers links) y x) → (y : ℕ)
      → list_any (eqb y) (x ∷ seen) ≡ true → Reaches (Refers links) y z
  extended seen x z r above y there =
      let cases : (eqb y x ≡ true) ⊎ (list_any (eqb y) seen ≡ true) = or_cases _ _ there in
      elim cases [
        | inl same ↦ subst (λ (at : ℕ). Reaches (Refers links) at z) (sym (eqb-true y x same))
            (reaches_once (Refers links) x z r)
        | inr old ↦ reaches_last (Refers links) y x z (above y old) r
      ]

  below_all : (seen : List ℕ) (x : ℕ) → x < length links
      → ((y : ℕ) → list_any (eqb y) seen ≡ true → y < length links) → (y : ℕ) → list_any (eqb y) (x ∷ seen) ≡ true
      → y < length links
  below_all seen x here below y there =
      let cases : (eqb y x ≡ true) ⊎ (list_any (eqb y) seen ≡ true) = or_cases _ _ there in
      elim cases [
        | inl same ↦ subst (λ (at : ℕ). at < length links) (sym (eqb-true y x same)) here
        | inr old ↦
            below y old
      ]

  differs : (seen : List ℕ) (x : ℕ) → list_any (eqb x) seen ≡ false → AllByRecursion (λ y. eqb x y ≡ false) seen
  differs [] x new = tt
  differs (y ∷ seen) x new = let parts = or_parts _ _ new in (parts.0, differs seen x parts.1)

  distinct_more : (seen : List ℕ) (x : ℕ) → list_any (eqb x) seen ≡ false → IsDistinct eqb seen
      → IsDistinct eqb (x ∷ seen)
  unfolding IsDistinct
  distinct_more seen x new old = (differs seen x new, old)

  -- the places on one way down differ, so they are no more than there are places
  ends_below : HasNoCycle links → AreInRange links → (n : ℕ) (seen : List ℕ) (x : ℕ) → length seen + n ≡ length links
      → x < length links → IsDistinct eqb seen → ((y : ℕ) → list_any (eqb y) seen ≡ true → y < length links)
      → ((y : ℕ) → list_any (eqb y) seen ≡ true → Reaches (Refers links) y x) → EndsWithin links n x
  ends_below apart in_range zero seen x all here distinct below above =
      let many : length (x ∷ seen) ≤ length links =
      length-le_from_distinct_below (x ∷ seen) (length links)
      (distinct_more seen x (unseen apart seen x above) distinct) (below_all seen x here below) in
      absurd (omega arith)
  ends_below apart in_range (suc n) seen x all here distinct below above = λ y r.
      ends_below apart in_range n (x ∷ seen) y (omega arith) (in_range x y r)
      (distinct_more seen x (unseen apart seen x above) distinct)
      (below_all seen x here below)
      (extended seen x y r above)

  none_distinct : IsDistinct eqb []
  unfolding IsDistinct
  none_distinct = tt

  -- where no place reaches itself, no list of references is as long as there are places
  pub ends_from_no_cycle : HasNoCycle links → AreInRange links → (x : ℕ) → x < length links
      → EndsWithin links (length links) x
  ends_from_no_cycle apart in_range x here =
      ends_below apart in_range (length links) [] x (omega arith) here none_distinct
      (λ y there. absurd (false≢true there))
      (λ y there. absurd (false≢true there))

module _ (links : List (List ℕ)) (order : List ℕ) (is_order : IsOrder links order) where
  -- the place that stands at i of an order has only places before i below it
  ends_in_order : (most i : ℕ) → i < most → i < length order → EndsWithin links (suc i) (get_or order i 0)
  ends_in_order zero i least here = absurd (omega arith)
  ends_in_order (suc most) i least here = λ y r.
      let before = is_order.after i y here r in
      let k = before.0 in
      let lower : k < i = omega (arith, before.1, length-take i order) in
      let in_order : k < length order = omega (arith, before.1, length-take i order) in
      let at : get_or order k 0 ≡ y =
      get_or_default order k 0 y in_order ∙ sym (get_or-take i order k y lower) ∙ before.2 in
      let below : EndsWithin links (suc k) y =
      subst (λ (z : ℕ). EndsWithin links (suc k) z) at (ends_in_order most k (omega arith) in_order) in
      ends_le links (suc k) i y (omega arith) below

  -- under an order no list of references is as long as there are places
  pub ends_from_order : (x : ℕ) → x < length links → EndsWithin links (length links) x
  ends_from_order x here =
      let place = is_order.each x here in
      let at : get_or order place.0 0 ≡ x = get_or_default order place.0 0 x place.1 ∙ place.2 in
      let ends : EndsWithin links (suc place.0) x =
      subst (λ (z : ℕ). EndsWithin links (suc place.0) z) at
      (ends_in_order (suc place.0) place.0 (omega arith) place.1) in
      ends_le links (suc place.0) (length links) x (omega (arith, place.1, is_order.once)) ends

-- a place past the end names nothing, so it reaches nothing
names_nothing : (links : List (List ℕ)) (x y : ℕ) → length links ≤ x → ¬ Refers links x y
names_nothing links x y past r =
    let none : children_at links x ≡ [] = get_or_past links x [] past in
    let named : Contains [] y = subst (λ (xs : List ℕ). Contains xs y) none r in
    absurd (omega (arith, named.1))

leads_from_within : (links : List (List ℕ)) (x : ℕ) (via : List ℕ) (y : ℕ) → Leads (Refers links) x via y
    → length links ≤ x → ⊥
leads_from_within links x [] y r past = names_nothing links x y past r
leads_from_within links x (next ∷ via) y r past = names_nothing links x next past r.0

pub reaches_from_within : (links : List (List ℕ)) (x y : ℕ) → Reaches (Refers links) x y → x < length links
reaches_from_within links x y w =
    let cases = cases_lt x (length links) in
    elim cases [ inl here ↦ here | inr past ↦ absurd (leads_from_within links x w.0 y w.1 past) ]

-- an order is there only where no place reaches itself
pub no_cycle_from_order : (links : List (List ℕ)) (order : List ℕ) → IsOrder links order → HasNoCycle links
no_cycle_from_order links order is_order x w =
    ends_apart links (length links) x (ends_from_order links order is_order x (reaches_from_within links x x w)) w

-- two places that are both the first are one
pub one_first : (links : List (List ℕ)) (x y : ℕ) → IsFirstOnCycle links x → IsFirstOnCycle links y → x ≡ y
one_first links x y first_x first_y =
    elim (cases_lt x y) [
      | inl below ↦ absurd (first_y.first x below first_x.on_cycle)
      | inr above ↦ elim (cases_lt y x) [
        | inl below ↦ absurd (first_x.first y below first_y.on_cycle)
        | inr equal ↦ omega arith
      ]
    ]
