-- What `order_of` keeps: only private clauses cite this.
use Rattle.std.specs.Prelude.{◌≡◌, ◌≢◌, ℕ, ◌+◌, ◌-◌, ◌*◌, ◌<◌, ◌≤◌, Bool, true, false, List, length, slice_index_or, slice_set, take}
use Rattle.std.specs.List.{Contains, All, AllPairs, count_by}
use Rattle.link_graph.specs.Reaches.{Reaches}
use Rattle.link_graph.specs.Links.{children_at, Refers}
use Rattle.link_graph.specs.declared.walk.Mark.{Mark}
use Rattle.link_graph.specs.declared.walk.Mark.TheVariants.{New, Open, Done}
use Rattle.link_graph.specs.declared.walk.Walk.{Walk}

-- the walk wasn't there yet
abbrev pub is_new : Mark → Bool
is_new New = true
is_new Open = false
is_new Done = false

-- the mark of a place
abbrev pub mark_at : List Mark → ℕ → Mark
mark_at marks x = slice_index_or marks x New

-- the children from one place to another are done
abbrev pub AreDone : List Mark → List ℕ → ℕ → ℕ → Type 0
AreDone marks children from to =
    (k : ℕ) → from ≤ k → k < to → mark_at marks (slice_index_or children k 0) ≡ Done

-- the children of a place are done, from its count on to this one
abbrev pub PassesDone : Walk → List ℕ → ℕ → ℕ → Type 0
PassesDone walk children place to = AreDone walk.marks.items children (slice_index_or walk.next.items place 0) to

-- a place before the end that isn't done
abbrev pub StopsAt : List Mark → List ℕ → ℕ → Type 0
StopsAt marks children at = at < length children → mark_at marks (slice_index_or children at 0) ≢ Done

-- the k-th place that x names
abbrev pub child_at : List (List ℕ) → ℕ → ℕ → ℕ
child_at links x k = slice_index_or (children_at links x) k 0

-- the walk so far: places that are done stand in the order, and those that are open on the way down
pub record IsWalk (links : List (List ℕ)) (marks : List Mark) (next way order : List ℕ) : Type 0 where
  pub marked : length marks ≡ length links
  pub counted : length next ≡ length links
  pub on_way : All (λ x. x < length links) way
  pub came : All (λ x. mark_at marks x ≢ New) way
  pub in_order : All (λ x. x < length links) order
  pub done : (x : ℕ) → x < length links → mark_at marks x ≡ Done → Contains order x
  pub still_open : (x : ℕ) → x < length links → mark_at marks x ≡ Open → Contains way x
  pub after : (i y : ℕ) → i < length order → Refers links (slice_index_or order i 0) y → Contains (take i order) y
  pub line : AllPairs (Reaches (Refers links)) way
  pub passed : (x k : ℕ) → k < slice_index_or next x 0 → k < length (children_at links x)
      → mark_at marks (child_at links x k) ≡ Done
  pub all : length order + length way + count_by is_new marks ≡ length links

-- the walk that a `Walk` holds
abbrev pub HoldsWalk : List (List ℕ) → Walk → Type 0
HoldsWalk links walk = IsWalk links walk.marks.items walk.next.items walk.way.items walk.order.items

-- what the walk still has to do, at most
abbrev pub left_of : Walk → ℕ
left_of walk = 2 * count_by is_new walk.marks.items + length walk.way.items

-- no place became new
abbrev pub StayMarked : Walk → Walk → Type 0
StayMarked old new = (x : ℕ) → mark_at new.marks.items x ≡ New → mark_at old.marks.items x ≡ New

-- the walk stays where it is
pub record OnlyCounts (old new : Walk) : Type 0 where
  pub marks : new.marks.items ≡ old.marks.items
  pub way : new.way.items ≡ old.way.items
  pub order : new.order.items ≡ old.order.items

-- one place has another mark
abbrev pub PutsMark : ℕ → Mark → Walk → Walk → Type 0
PutsMark place mark old new = new.marks.items ≡ slice_set old.marks.items place mark

-- the places but for the last
abbrev pub without_last : List ℕ → List ℕ
without_last xs = take (length xs - 1) xs
