-- References by ids, as a configuration gives them, and the places that they mean.
use Rattle.std.specs.Prelude.{◌≡◌, ℕ, ℤ, pos, ◌<◌, Bool, true, ◌↔◌, List, [], length, map, slice_index_or, slice_get, Option, Some, if◌then◌else◌}
use Rattle.std.specs.Ordering.{int_eq}
use Rattle.std.specs.List.{Contains, flat_map, find}
use Rattle.link_graph.specs.Reaches.{Reaches}
use Rattle.link_graph.specs.Within.{follows_within}
use Rattle.link_graph.specs.Links.{children_at, IsFirstOnCycle, HasNoCycle}

-- one entity of a kind: its id, and the ids of those of its kind that it names
pub record IdNode : Type 0 where
  pub id : ℤ
  pub named : List ℤ

-- an entity with the id x names the id y
pub record RefersById (entities : List IdNode) (x y : ℤ) : Type 0 where
  pub entity : IdNode
  pub is_there : Contains entities entity
  pub has_id : entity.id ≡ x
  pub names : Contains entity.named y

-- the ids that entities with this id name
abbrev pub named_by : List IdNode → ℤ → List ℤ
named_by entities x = flat_map (λ (entity : IdNode). if int_eq entity.id x then entity.named else []) entities

-- a list of references leads from x to y: where there is one, there is one of no more references than entities
unfoldable pub reaches_by_id : List IdNode → ℤ → ℤ → Bool
reaches_by_id entities x y = follows_within int_eq (named_by entities) (length entities) x y

-- the first entity from which a list of references leads to itself
abbrev pub first_to_reach_itself : List IdNode → Option IdNode
first_to_reach_itself entities = find (λ (entity : IdNode). reaches_by_id entities entity.id entity.id) entities

-- the id of the entity at a place
abbrev pub node_id : List IdNode → ℕ → ℤ
node_id entities x = slice_index_or (map (λ (entity : IdNode). entity.id) entities) x (pos 0)

-- the ids differ, each that is named is there, and the links have their places
pub record Resolves (entities : List IdNode) (links : List (List ℕ)) : Type 0 where
  pub each : length links ≡ length entities
  pub apart : (x y : ℕ) → x < length entities → y < length entities → node_id entities x ≡ node_id entities y → x ≡ y
  pub in_range : (x y : ℕ) → Contains (children_at links x) y → y < length entities
  pub places : (x : ℕ) (entity : IdNode) → slice_get entities x ≡ Some entity
      → map (node_id entities) (children_at links x) ≡ entity.named

-- the first entity from which a list of references leads to itself stands at this place
pub record IsFirstOnCycleById (entities : List IdNode) (x : ℕ) : Type 0 where
  pub here : x < length entities
  pub on_cycle : Reaches (RefersById entities) (node_id entities x) (node_id entities x)
  pub first : (y : ℕ) → y < x → ¬ Reaches (RefersById entities) (node_id entities y) (node_id entities y)

-- no entity reaches itself
abbrev pub HasNoCycleById : List IdNode → Type 0
HasNoCycleById entities =
    (x : ℕ) → x < length entities → ¬ Reaches (RefersById entities) (node_id entities x) (node_id entities x)

-- where the ids have their places, the first place on a cycle is that of the first entity on one
abbrev pub FirstResolves : List IdNode → List (List ℕ) → Type 0
FirstResolves entities links =
    Resolves entities links → (x : ℕ) → IsFirstOnCycle links x → IsFirstOnCycleById entities x

-- where the ids have their places and no place reaches itself, no entity does
abbrev pub NoneResolves : List IdNode → List (List ℕ) → Type 0
NoneResolves entities links = Resolves entities links → HasNoCycle links → HasNoCycleById entities

-- as many references as there are entities are enough
abbrev pub FindsReachedById : List IdNode → Type 0
FindsReachedById entities = (x y : ℤ) → (reaches_by_id entities x y ≡ true) ↔ Reaches (RefersById entities) x y
