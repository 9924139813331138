-- What `refuse_cycles` looks at: only private clauses cite this.
use Rattle.std.specs.Prelude.{◌≡◌, ℕ, ℤ, List, map}
use Rattle.link_graph.specs.Ids.{IdNode, Resolves}
use Rattle.link_rules.specs.declared.cycles.Children.{Children}
use Rattle.link_rules.specs.Cycles.{places_of}

-- the places that are named
abbrev pub child_places : Children → List ℕ
child_places children = children.places

-- the ids of these differ, and each that is named has its place
abbrev pub ResolvesIn : List ℤ → List IdNode → Type 0
ResolvesIn known nodes = Resolves nodes (map (places_of known) nodes)

-- these are the places of those that each entity names
abbrev pub ArePlacesOf : List ℤ → List IdNode → List Children → Type 0
ArePlacesOf known nodes children = map child_places children ≡ map (places_of known) nodes
