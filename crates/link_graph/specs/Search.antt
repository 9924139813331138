-- What `reached_from` keeps: only private clauses cite this.
use Rattle.std.specs.Prelude.{◌≡◌, ℕ, ◌+◌, ◌<◌, Bool, true, false, not, List, [], ◌∷◌, ◌++◌, length, slice_index_or, slice_set, ◌⊎◌}
use Rattle.std.specs.List.{Contains, count_by}
use Rattle.link_graph.specs.Reaches.{Reaches}
use Rattle.link_graph.specs.Links.{Refers}

-- the mark of a place; past the end there is none
abbrev pub mark_of : List Bool → ℕ → Bool
mark_of marks y = slice_index_or marks y false

-- how many places have no mark
abbrev pub unmarked_count : List Bool → ℕ
unmarked_count marks = count_by not marks

-- a place has its mark already, or gets it and is added to what was found
abbrev pub MarksOne : ℕ → List Bool → List ℕ → List Bool → List ℕ → Type 0
MarksOne place marks found marks' found' =
    ((mark_of marks place ≡ true) × (marks' ≡ marks) × (found' ≡ found))
    ⊎ ((mark_of marks place ≡ false) × (marks' ≡ slice_set marks place true) × (found' ≡ found ++ place ∷ []))

-- these places were marked, and those of them that had no mark were added to what was found
pub record MarksAll (children : List ℕ) (marks : List Bool) (found : List ℕ) (marks' : List Bool)
    (found' : List ℕ) : Type 0 where
  pub added : List ℕ
  pub front : found' ≡ found ++ added
  pub named : (y : ℕ) → Contains added y → Contains children y
  pub same : length marks' ≡ length marks
  pub kept : (y : ℕ) → mark_of marks y ≡ true → mark_of marks' y ≡ true
  pub fresh : (y : ℕ) → mark_of marks' y ≡ true → (mark_of marks y ≡ true) ⊎ Contains added y
  pub now : (y : ℕ) → Contains added y → mark_of marks' y ≡ true
  pub all : (y : ℕ) → Contains children y → mark_of marks' y ≡ true
  pub count : length found' + unmarked_count marks' ≡ length found + unmarked_count marks

-- the search so far: what was found is reached and marked, and the children of its first places are found too
pub record IsSearch (links : List (List ℕ)) (from : ℕ) (marks : List Bool) (found : List ℕ) (passed : ℕ) : Type 0 where
  pub marked : length marks ≡ length links
  pub listed : (y : ℕ) → mark_of marks y ≡ true → Contains found y
  pub now : (y : ℕ) → Contains found y → mark_of marks y ≡ true
  pub reached : (y : ℕ) → Contains found y → Reaches (Refers links) from y
  pub start : (y : ℕ) → Refers links from y → mark_of marks y ≡ true
  pub below : (k y : ℕ) → k < passed → k < length found → Refers links (slice_index_or found k 0) y
      → mark_of marks y ≡ true
  pub count : length found + unmarked_count marks ≡ length links
