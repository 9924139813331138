-- References between places: at each place stand the places that it names, in its order and as often as it names them.
use Rattle.std.specs.Prelude.{◌≡◌, ℕ, ◌<◌, List, [], length, slice_index_or, take, Bool, true, false, ◌↔◌}
use Rattle.std.specs.List.{Contains, All}
use Rattle.link_graph.specs.Reaches.{Reaches}

-- what a place names; past the end nothing
abbrev pub children_at : List (List ℕ) → ℕ → List ℕ
children_at links x = slice_index_or links x []

-- place x names place y
abbrev pub Refers : List (List ℕ) → ℕ → ℕ → Type 0
Refers links x y = Contains (children_at links x) y

-- each place that is named is there
abbrev pub AreInRange : List (List ℕ) → Type 0
AreInRange links = (x y : ℕ) → Refers links x y → y < length links

-- no place reaches itself
abbrev pub HasNoCycle : List (List ℕ) → Type 0
HasNoCycle links = (x : ℕ) → ¬ Reaches (Refers links) x x

-- the first place that reaches itself
pub record IsFirstOnCycle (links : List (List ℕ)) (x : ℕ) : Type 0 where
  pub on_cycle : Reaches (Refers links) x x
  pub first : (y : ℕ) → y < x → ¬ Reaches (Refers links) y y

-- both places are the first
abbrev pub AreBothFirst : List (List ℕ) → ℕ → ℕ → Type 0
AreBothFirst links x y = IsFirstOnCycle links x × IsFirstOnCycle links y

-- each place stands once in this order, after all that it names
pub record IsOrder (links : List (List ℕ)) (order : List ℕ) : Type 0 where
  pub in_range : All (λ x. x < length links) order
  pub each : (x : ℕ) → x < length links → Contains order x
  pub once : length order ≡ length links
  pub after : (i y : ℕ) → i < length order → Refers links (slice_index_or order i 0) y → Contains (take i order) y

-- some place reaches itself
abbrev pub HasCycle : List (List ℕ) → Type 0
HasCycle links = (x : ℕ) × Reaches (Refers links) x x

-- which places a place reaches
pub record MarksReached (links : List (List ℕ)) (from : ℕ) (marks : List Bool) : Type 0 where
  pub each : length marks ≡ length links
  pub reached : (y : ℕ) → y < length links → (slice_index_or marks y false ≡ true) ↔ Reaches (Refers links) from y
