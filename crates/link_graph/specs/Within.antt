-- Lists of references that are searched to a depth, by computing.
use Rattle.std.specs.Prelude.{◌≡◌, ℕ, zero, suc, nat_eq, Bool, true, false, ◌||◌, ◌↔◌, List, length}
use Rattle.std.specs.List.{list_any}
use Rattle.link_graph.specs.Reaches.{Reaches}
use Rattle.link_graph.specs.Links.{children_at, Refers}

module _ {A : Type 0} (same : A → A → Bool) (named : A → List A) where
  -- a list of references, of one at least and of so many at most, leads from x to y
  abbrev pub follows_within : ℕ → A → A → Bool
  follows_within zero x y = false
  follows_within (suc most) x y = list_any (λ next. same next y || follows_within most next y) (named x)

-- a list of references between places, of one at least and of so many at most, leads from x to y
abbrev pub leads_within : ℕ → List (List ℕ) → ℕ → ℕ → Bool
leads_within most links x y = follows_within nat_eq (children_at links) most x y

-- as many references as there are places are enough
abbrev pub FindsReached : List (List ℕ) → Type 0
FindsReached links =
    (x y : ℕ) → (leads_within (length links) links x y ≡ true) ↔ Reaches (Refers links) x y
