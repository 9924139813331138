-- The truth where no simple matcher holds. No public clause cites this.
use Rattle.std.specs.Prelude.{ℕ, Bool, false, List, [], ◌∷◌, map, Option, None, Some}
use Rattle.matcher_eval.specs.Combined.{combined_truth}
use Rattle.matcher_table.specs.declared.shared.SharedMatcher.{SharedMatcher}
use Rattle.matcher_table.specs.declared.shared.SharedMatcher.TheVariants.{Simple, Combination}
use Rattle.matcher_table.specs.Trees.{Tree, Trees, NoMatcher, Leaf, Branch, NoTrees, MoreTrees}

-- the truth of a tree where no simple matcher holds
abbrev mutual
  pub idle_truth : Tree → Bool
  idle_truth NoMatcher = false
  idle_truth (Leaf matcher) = false
  idle_truth (Branch op trees) = combined_truth op (idle_truths trees)

  -- the truths of trees where no simple matcher holds, in order
  pub idle_truths : Trees → List Bool
  idle_truths NoTrees = []
  idle_truths (MoreTrees tree trees) = idle_truth tree ∷ idle_truths trees

-- that of what a slot stands for, where that of each slot is given
abbrev pub idle_with : (ℕ → Bool) → Option SharedMatcher → Bool
idle_with truth None = false
idle_with truth (Some (Simple matcher)) = false
idle_with truth (Some (Combination op children)) = combined_truth op (map truth children)
