-- Worked references, by computing.
use Rattle.std.proofs.Common.{◌≡◌, ℕ, ℤ, pos, negsuc, true, false, List, [], ◌∷◌, Some, None, refl, arith}
use Rattle.link_graph.specs.Reaches.{Reaches}
use Rattle.link_graph.specs.Links.{Refers}
use Rattle.link_graph.specs.Within.{leads_within}
use Rattle.link_graph.specs.Ids.{IdNode, reaches_by_id, first_to_reach_itself}

-- the first place only refers to the cycle of the second and the third
abbrev links : List (List ℕ)
links = (1 ∷ []) ∷ (2 ∷ []) ∷ (1 ∷ []) ∷ []

second_reaches_itself : Reaches (Refers links) 1 1
second_reaches_itself = (2 ∷ [], ((0, omega arith, refl), (0, omega arith, refl)))

first_reaches_the_second : Reaches (Refers links) 0 1
first_reaches_the_second = ([], (0, omega arith, refl))

-- by a search to a depth: the third is reached, the first isn't
finds_the_third : leads_within 3 links 0 2 ≡ true
finds_the_third = refl

not_the_first : leads_within 3 links 0 0 ≡ false
not_the_first = refl

-- one reference is too few to come back by way of another
one_is_too_few : leads_within 1 links 1 1 ≡ false
one_is_too_few = refl

-- the same by ids, one of them negative: not the first entity, but the first on a cycle is named
abbrev entity : ℤ → List ℤ → IdNode
entity id named = record { id = id; named = named }

names_the_member : first_to_reach_itself
    (entity (pos 1) (negsuc 1 ∷ []) ∷ entity (negsuc 1) (pos 3 ∷ []) ∷ entity (pos 3) (pos 9 ∷ negsuc 1 ∷ []) ∷ [])
    ≡ Some (entity (negsuc 1) (pos 3 ∷ []))
unfolding reaches_by_id
names_the_member = refl

-- one that names itself
names_itself : first_to_reach_itself (entity (pos 1) (pos 3 ∷ []) ∷ entity (pos 3) (pos 3 ∷ []) ∷ [])
    ≡ Some (entity (pos 3) (pos 3 ∷ []))
unfolding reaches_by_id
names_itself = refl

-- two ways to the same entity are no cycle
two_ways : first_to_reach_itself
    (entity (pos 1) (pos 2 ∷ pos 3 ∷ pos 2 ∷ []) ∷ entity (pos 2) (pos 3 ∷ []) ∷ entity (pos 3) [] ∷ []) ≡ None
unfolding reaches_by_id
two_ways = refl
