-- What slots stand for, and how often they are named.
use Rattle.std.specs.Prelude.{ℕ, ◌==◌, List, [], Option, None, Some, slice_index_or}
use Rattle.std.specs.List.{sum_by, count_by}
use Rattle.matcher_table.specs.declared.shared.SharedMatcher.{SharedMatcher}
use Rattle.matcher_table.specs.declared.shared.SharedMatcher.TheVariants.{Simple, Combination}

-- what a slot stands for; none where it isn't live
abbrev pub matcher_at : List (Option SharedMatcher) → ℕ → Option SharedMatcher
matcher_at slots s = slice_index_or slots s None

-- the child slots of a combination, in order and as often as they are named
abbrev pub children_of : Option SharedMatcher → List ℕ
children_of None = []
children_of (Some (Simple matcher)) = []
children_of (Some (Combination op children)) = children

-- how often a number stands in a list
abbrev pub times_among : ℕ → List ℕ → ℕ
times_among x xs = count_by (λ y. y == x) xs

-- how often a slot stands in the child lists of live combinations
abbrev pub child_uses : List (Option SharedMatcher) → ℕ → ℕ
child_uses slots s = sum_by (λ shared. times_among s (children_of shared)) slots

-- one for a live slot, and else none
abbrev pub live_count : Option SharedMatcher → ℕ
live_count None = 0
live_count (Some shared) = 1
