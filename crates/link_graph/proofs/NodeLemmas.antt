-- What a node of a list names, and functions that agree there.
use Rattle.std.proofs.Common.{◌≡◌, ℕ, zero, suc, ◌<◌, Bool, ◌||◌, List, [], ◌∷◌, length, map, get_or, Some, None, refl, sym, ap, subst, arith, ◌∙◌}
use Rattle.std.specs.List.{Contains, All, list_any, slice_get}
use Rattle.std.proofs.lemmas.List.{length-map, get_or-map}
use Rattle.std.proofs.lemmas.List.Elements.{Contains-get_or}
use Rattle.link_graph.specs.Links.{children_at, Refers, AreInRange}

pub Contains_later : {X : Type 0} (x : X) (xs : List X) (y : X) → Contains xs y → Contains (x ∷ xs) y
Contains_later x xs y c = (suc c.0, omega (arith, c.1), c.2)

pub Contains_first : {X : Type 0} (x : X) (xs : List X) → Contains (x ∷ xs) x
Contains_first x xs = (0, omega arith, refl)

-- what a function makes of a list's elements stands in the list that it makes
pub Contains-map : {X Y : Type 0} (f : X → Y) (xs : List X) (x : X) → Contains xs x → Contains (map f xs) (f x)
Contains-map f xs x c =
    (c.0, omega (arith, c.1, length-map xs f), get_or-map f xs c.0 x (f x) c.1 ∙ ap f c.2)

-- functions that agree on what a list has make the same list of it
pub map_same : {V : Type 0} (f g : ℕ → V) (xs : List ℕ) → ((y : ℕ) → Contains xs y → f y ≡ g y) → map f xs ≡ map g xs
map_same f g [] same = refl
map_same f g (x ∷ xs) same =
    let here : f x ≡ g x = same x (Contains_first x xs) in
    let later : map f xs ≡ map g xs = map_same f g xs (λ y c. same y (Contains_later x xs y c)) in
    cc

pub list_any-map : {X Y : Type 0} (p : X → Bool) (h : Y → X) (ys : List Y)
    → list_any p (map h ys) ≡ list_any (λ y. p (h y)) ys
list_any-map p h [] = refl
list_any-map p h (y ∷ ys) = ap (λ (b : Bool). p (h y) || b) (list_any-map p h ys)

module _ {N : Type 0} (names : N → List ℕ) where
  -- what the links have at a place is what the node there names
  pub children_of : (nodes : List N) (x : ℕ) (node : N) → slice_get nodes x ≡ Some node
      → children_at (map names nodes) x ≡ names node
  children_of [] x node e = cc
  children_of (first ∷ nodes) zero node e = let same : first ≡ node = cc in ap names same
  children_of (first ∷ nodes) (suc x) node e = children_of nodes x node e

  -- past the end nothing is named
  pub children_past : (nodes : List N) (x : ℕ) → slice_get nodes x ≡ None → children_at (map names nodes) x ≡ []
  children_past [] x e = refl
  children_past (first ∷ nodes) zero e = cc
  children_past (first ∷ nodes) (suc x) e = children_past nodes x e

  -- what a node names is there
  pub names_in_range : (nodes : List N) (x : ℕ) (node : N) → AreInRange (map names nodes)
      → slice_get nodes x ≡ Some node → All (λ y. y < length nodes) (names node)
  names_in_range nodes x node in_range e k d here =
      let same = children_of nodes x node e in
      let named : Refers (map names nodes) x (get_or (names node) k d) =
      subst (λ (xs : List ℕ). Contains xs (get_or (names node) k d)) (sym same)
      (Contains-get_or (names node) k d here) in
      omega (arith, in_range x (get_or (names node) k d) named, length-map nodes names)

  -- where what is named is there, so is what one place names
  pub children_in_range : (nodes : List N) (x : ℕ) → AreInRange (map names nodes)
      → All (λ y. y < length nodes) (children_at (map names nodes) x)
  children_in_range nodes x in_range k d here =
      let children = children_at (map names nodes) x in
      omega (arith, in_range x (get_or children k d) (Contains-get_or children k d here), length-map nodes names)
