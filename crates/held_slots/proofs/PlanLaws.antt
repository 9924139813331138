-- An order in which each place stands, and that is as long as there are places, has each place once.
use Rattle.std.proofs.Common.{◌≡◌, ℕ, zero, suc, ◌+◌, ◌<◌, ◌≤◌, Bool, true, false, cond, List, [], ◌∷◌, length, get_or, take, Some, refl, sym, ap, subst, ◌∙◌, arith, inl, inr}
use Rattle.std.specs.Prelude.{nat_lt}
use Rattle.std.specs.List.{All, Contains, sum_by, slice_get}
use Rattle.std.proofs.lemmas.Bool.{cases_eq, cases_lt}
use Rattle.std.proofs.lemmas.Bool.Decides.{nat_tests}
use Rattle.std.proofs.lemmas.List.{length-map, get_or_default, take_all}
use Rattle.std.proofs.lemmas.List.Sums.{sum_by-cons}
use Rattle.link_graph.specs.Links.{IsOrder}
use Rattle.link_graph.proofs.NodeLemmas.{children_of}
use Rattle.config_links.specs.declared.linked.LMatcher.{LMatcher}
use Rattle.config_links.specs.SoundConfig.{named_matchers}
use Rattle.matcher_truths.specs.MatcherTruths.{named_places}
use Rattle.matcher_table.specs.Slots.{times_among}
use Rattle.matcher_table.proofs.Counting.{one_if, one_if_same, one_if_other, places-cons, places_more, place_of, counted_at}

-- each place stands once in the order, behind all that the matcher there names, and no other number stands in it
pub record IsPlan (matchers : List LMatcher) (order : List ℕ) : Type 0 where
  pub once : (place : ℕ) → times_among place order ≡ cond (nat_lt place (length matchers)) 1 0
  pub after : (i c : ℕ) (m : LMatcher) → i < length order → slice_get matchers (get_or order i 0) ≡ Some m
      → 0 < times_among c (named_matchers m) → 0 < times_among c (take i order)

-- the sum of the values below a number
abbrev up_to : (ℕ → ℕ) → ℕ → ℕ
up_to f zero = 0
up_to f (suc n) = up_to f n + f n

up_to_same : (f g : ℕ → ℕ) (n : ℕ) → ((x : ℕ) → x < n → f x ≡ g x) → up_to f n ≡ up_to g n
up_to_same f g zero same = refl
up_to_same f g (suc n) same = omega (arith, up_to_same f g n (λ x h. same x (omega arith)), same n (omega arith))

up_to_add : (f g : ℕ → ℕ) (n : ℕ) → up_to (λ x. f x + g x) n ≡ up_to f n + up_to g n
up_to_add f g zero = refl
up_to_add f g (suc n) = omega (arith, up_to_add f g n)

-- the value of one number, where it is that one
abbrev where_is : (ℕ → ℕ) → ℕ → ℕ → ℕ
where_is g x zero = 0
where_is g x (suc n) = g x

-- the weight of one place
abbrev weight : (ℕ → ℕ) → ℕ → ℕ → ℕ
weight g y x = where_is g y (one_if x y)

weight_same : (g : ℕ → ℕ) (y x : ℕ) → y ≡ x → weight g y x ≡ g y
weight_same g y x same = ap (where_is g y) (one_if_same x y same)

weight_other : (g : ℕ → ℕ) (y x : ℕ) → (y ≡ x → ⊥) → weight g y x ≡ 0
weight_other g y x other = ap (where_is g y) (one_if_other x y other)

up_to_none : (g : ℕ → ℕ) (y n : ℕ) → n ≤ y → up_to (weight g y) n ≡ 0
up_to_none g y zero h = refl
up_to_none g y (suc n) h = omega (arith, up_to_none g y n (omega arith), weight_other g y n (omega arith))

up_to_one : (g : ℕ → ℕ) (y n : ℕ) → y < n → up_to (weight g y) n ≡ g y
up_to_one g y zero h = absurd (omega arith)
up_to_one g y (suc n) h =
    elim (cases_eq y n) [
      | inl same ↦ omega (arith, up_to_none g y n (omega arith), weight_same g y n same)
      | inr other ↦ omega (arith, up_to_one g y n (omega arith), weight_other g y n other)
    ]

up_to_zero : (n : ℕ) → up_to (λ x. 0) n ≡ 0
up_to_zero zero = refl
up_to_zero (suc n) = omega (arith, up_to_zero n)

-- all that is counted at a number, along a list
abbrev weights : (ℕ → ℕ) → List ℕ → ℕ → ℕ
weights g xs x = sum_by (λ y. weight g y x) xs

-- a sum along a list is the sum of what is counted at each number
total : (g : ℕ → ℕ) (n : ℕ) (xs : List ℕ) → All (λ x. x < n) xs → up_to (weights g xs) n ≡ sum_by g xs
total g n [] below = up_to_zero n
total g n (y ∷ ys) below =
    let later : up_to (weights g ys) n ≡ sum_by g ys = total g n ys (λ k d h. below (suc k) d (omega arith)) in
    omega (
      arith,
      up_to_same (weights g (y ∷ ys)) (λ x. weight g y x + weights g ys x) n
          (λ x h. sum_by-cons (λ z. weight g z x) y ys),
      up_to_add (weight g y) (weights g ys) n,
      up_to_one g y n (below 0 0 (omega arith)),
      sum_by-cons g y ys,
    )

-- what stands nowhere weighs nothing, and what stands once its value
weights_none : (g : ℕ → ℕ) (x : ℕ) (xs : List ℕ) → times_among x xs ≡ 0 → weights g xs x ≡ 0
weights_none g x [] h = refl
weights_none g x (y ∷ ys) h =
    elim (cases_eq y x) [
      | inl same ↦ absurd (omega (arith, places-cons x y ys, one_if_same x y same))
      | inr other ↦
          let later : weights g ys x ≡ 0 = weights_none g x ys (omega (arith, places-cons x y ys)) in
          omega (arith, sum_by-cons (λ z. weight g z x) y ys, weight_other g y x other)
    ]

weights_once : (g : ℕ → ℕ) (x : ℕ) (xs : List ℕ) → times_among x xs ≡ 1 → weights g xs x ≡ g x
weights_once g x [] h = absurd (omega arith)
weights_once g x (y ∷ ys) h =
    elim (cases_eq y x) [
      | inl same ↦
          let later : weights g ys x ≡ 0 =
          weights_none g x ys (omega (arith, places-cons x y ys, one_if_same x y same)) in
          let value : g y ≡ g x = ap g same in
          omega (arith, sum_by-cons (λ z. weight g z x) y ys, weight_same g y x same)
      | inr other ↦
          let later : weights g ys x ≡ g x =
          weights_once g x ys (omega (arith, places-cons x y ys, one_if_other x y other)) in
          omega (arith, sum_by-cons (λ z. weight g z x) y ys, weight_other g y x other)
    ]

-- places along a list are its places
up_to_take : (s : ℕ) (slots : List ℕ) (n : ℕ) → n ≤ length slots
    → up_to (λ p. one_if s (get_or slots p 0)) n ≡ times_among s (take n slots)
up_to_take s slots zero h = refl
up_to_take s slots (suc n) h =
    let next : n + 1 ≡ suc n = omega arith in
    omega (
      arith,
      up_to_take s slots n (omega arith),
      places_more s slots n (omega arith),
      ap (λ (k : ℕ). times_among s (take k slots)) next,
    )

at_least : (f : ℕ → ℕ) (n : ℕ) → ((x : ℕ) → x < n → 0 < f x) → n ≤ up_to f n
at_least f zero some = omega arith
at_least f (suc n) some = omega (arith, at_least f n (λ x h. some x (omega arith)), some n (omega arith))

each_one : (f : ℕ → ℕ) (n : ℕ) → ((x : ℕ) → x < n → 0 < f x) → up_to f n ≤ n → (x : ℕ) → x < n → f x ≡ 1
each_one f zero some most x h = absurd (omega arith)
each_one f (suc n) some most x h =
    let least : n ≤ up_to f n = at_least f n (λ y l. some y (omega arith)) in
    let last : 0 < f n = some n (omega arith) in
    elim (cases_eq x n) [
      | inl same ↦
          let one : f n ≡ 1 = omega arith in
          ap f same ∙ one
      | inr other ↦ each_one f n (λ y l. some y (omega arith)) (omega arith) x (omega arith)
    ]

-- so many stand in a list
counts_one : (x : ℕ) (xs : List ℕ) → times_among x xs ≡ weights (λ y. 1) xs x
counts_one x [] = refl
counts_one x (y ∷ ys) =
    elim (cases_eq y x) [
      | inl same ↦ omega (
        arith,
        places-cons x y ys,
        counts_one x ys,
        one_if_same x y same,
        sum_by-cons (λ z. weight (λ y. 1) z x) y ys,
        weight_same (λ y. 1) y x same,
      )
      | inr other ↦ omega (
        arith,
        places-cons x y ys,
        counts_one x ys,
        one_if_other x y other,
        sum_by-cons (λ z. weight (λ y. 1) z x) y ys,
        weight_other (λ y. 1) y x other,
      )
    ]

many_ones : (xs : List ℕ) → sum_by (λ y. 1) xs ≡ length xs
many_ones [] = refl
many_ones (x ∷ xs) = omega (arith, sum_by-cons (λ y. 1) x xs, many_ones xs)

pub counted : (xs : List ℕ) (x : ℕ) → Contains xs x → 0 < times_among x xs
counted xs x c =
    subst (λ (y : ℕ). 0 < times_among y xs) (get_or_default xs c.0 0 x c.1 ∙ c.2) (counted_at xs c.0 c.1)

pub contained : (xs : List ℕ) (y : ℕ) → 0 < times_among y xs → Contains xs y
contained xs y some =
    let at = place_of y xs some in
    (at.0, at.1, get_or_default xs at.0 y 0 at.1 ∙ at.2)

test_true : (x n : ℕ) → x < n → nat_lt x n ≡ true
test_true x n h = grind (arith, nat_tests)

test_false : (x n : ℕ) → n ≤ x → nat_lt x n ≡ false
test_false x n h = grind (arith, nat_tests)

abbrev one_where : Bool → ℕ
one_where b = cond b 1 0

module _ (matchers : List LMatcher) (order : List ℕ) (is_order : IsOrder (named_places matchers) order) where
  many : length (named_places matchers) ≡ length matchers
  many = length-map matchers named_matchers

  below : All (λ x. x < length matchers) order
  below = λ k d h. omega (arith, is_order.in_range k d h, many)

  stands : (x : ℕ) → x < length matchers → times_among x order ≡ 1
  stands x h =
      let sum : up_to (λ y. times_among y order) (length matchers) ≤ length matchers =
      omega (
        arith,
        up_to_same (λ y. times_among y order) (weights (λ y. 1) order) (length matchers)
            (λ y l. counts_one y order),
        total (λ y. 1) (length matchers) order below,
        many_ones order,
        is_order.once,
        many,
      ) in
      each_one (λ y. times_among y order) (length matchers)
      (λ y l. counted order y (is_order.each y (omega (arith, many)))) sum x h

  -- an order has each place once, after those that it names
  pub plan_from_order : IsPlan matchers order
  plan_from_order = record {
    once = λ x. elim (cases_lt x (length matchers)) [
      | inl lower ↦ stands x lower ∙ sym (ap one_where (test_true x (length matchers) lower))
      | inr past ↦
          let none : times_among x order ≡ 0 = elim (cases_eq (times_among x order) 0) [
            | inl is ↦ is
            | inr some ↦
                let at = place_of x order (omega arith) in
                let low : get_or order at.0 0 < length matchers = below at.0 0 at.1 in
                absurd (omega (arith, at.2))
          ] in
          none ∙ sym (ap one_where (test_false x (length matchers) past))
    ];
    after = λ i c m h is named.
        counted (take i order) c (is_order.after i c h
        (subst (λ (xs : List ℕ). Contains xs c)
        (sym (children_of named_matchers matchers (get_or order i 0) m is)) (contained (named_matchers m) c named)));
  }

  -- what is held along an order is what is held along the list
  pub uses_in_order : (s : ℕ) (slots : List ℕ) → length slots ≡ length matchers
      → sum_by (λ p. one_if s (get_or slots p 0)) order ≡ times_among s slots
  uses_in_order s slots long =
      let g : ℕ → ℕ = λ p. one_if s (get_or slots p 0) in
      let each : up_to (weights g order) (length matchers) ≡ up_to g (length matchers) =
      up_to_same (weights g order) g (length matchers) (λ x h. weights_once g x order (stands x h)) in
      let whole : take (length matchers) slots ≡ slots = take_all (length matchers) slots (omega arith) in
      sym (total g (length matchers) order below) ∙ each ∙ up_to_take s slots (length matchers) (omega arith)
      ∙ ap (times_among s) whole
