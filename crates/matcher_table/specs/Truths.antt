-- The truth of trees and of slots under a judge.
use Rattle.std.specs.Prelude.{◌≡◌, ◌≢◌, ℕ, ◌+◌, ◌<◌, ◌≤◌, ◌==◌, min, Bool, true, false, ◌&&◌, List, [], ◌∷◌, map, take, length, slice_index_or, Option, Some, None}
use Rattle.std.specs.List.{count_by}
use Rattle.atom_record.specs.declared.atom.Atom.{Atom}
use Rattle.config_types.specs.declared.matcher.SimpleMatcher.{SimpleMatcher}
use Rattle.config_types.specs.Askable.{IsAskable}
use Rattle.matcher_eval.specs.AtomTests.{number_set}
use Rattle.matcher_eval.specs.Combined.{combined_truth}
use Rattle.matcher_eval.specs.Questions.{last_tick}
use Rattle.matcher_table.specs.declared.shared.SharedMatcher.{SharedMatcher}
use Rattle.matcher_table.specs.declared.shared.SharedMatcher.TheVariants.{Simple, Combination}
use Rattle.matcher_table.specs.Slots.{matcher_at, children_of, times_among, live_count}
use Rattle.matcher_table.specs.Tables.{SlotTable, result_at}
use Rattle.matcher_table.specs.Trees.{Tree, Trees, NoMatcher, Leaf, Branch, NoTrees, MoreTrees, slot_tree}

-- a simple matcher is of an atom's id
abbrev pub has_id_of : Atom → SimpleMatcher → Bool
has_id_of atom matcher = atom.id == number_set matcher.atom_id

module _ (says : SimpleMatcher → Atom → Bool) (atom : Atom) where
  -- a simple matcher of another atom's id is false, and of the others the judge says it
  abbrev pub truth_of_simple : SimpleMatcher → Bool
  truth_of_simple matcher = has_id_of atom matcher && says matcher atom

  -- the truth of a tree
  abbrev mutual
    pub tree_truth : Tree → Bool
    tree_truth NoMatcher = false
    tree_truth (Leaf matcher) = truth_of_simple matcher
    tree_truth (Branch op trees) = combined_truth op (trees_truths trees)

    -- the truths of trees, in order
    pub trees_truths : Trees → List Bool
    trees_truths NoTrees = []
    trees_truths (MoreTrees tree trees) = tree_truth tree ∷ trees_truths trees

  -- the truth of what a slot stands for, where the truth of each slot is given
  abbrev pub truth_with : (ℕ → Bool) → Option SharedMatcher → Bool
  truth_with truth None = false
  truth_with truth (Some (Simple matcher)) = truth_of_simple matcher
  truth_with truth (Some (Combination op children)) = combined_truth op (map truth children)

-- a judge is asked about what is simple and of the atom's id
abbrev pub asks_about : Atom → Option SharedMatcher → Bool
asks_about atom None = false
asks_about atom (Some (Simple matcher)) = has_id_of atom matcher
asks_about atom (Some (Combination op children)) = false

-- Each live slot has the truth of its tree, and nothing else changes.
pub record Evaluates (says : SimpleMatcher → Atom → Bool) (atom : Atom) (old new : SlotTable) : Type 0 where
  pub slots : new.slots ≡ old.slots
  pub next : new.next ≡ old.next
  pub outside : new.outside ≡ old.outside
  pub results : (s : ℕ) → matcher_at new.slots s ≢ None
      → result_at new s ≡ tree_truth says atom (slot_tree new.slots s)

-- A list of live slots that is enough for an atom: each simple matcher of the atom's id stands in it, with each
-- combination of what stands in it, no slot twice, and children before what names them.
pub record IsEnough (slots : List (Option SharedMatcher)) (atom : Atom) (group : List ℕ) : Type 0 where
  pub simple : (s : ℕ) (matcher : SimpleMatcher) → matcher_at slots s ≡ Some (Simple matcher)
      → has_id_of atom matcher ≡ true → 0 < times_among s group
  pub above : (s c : ℕ) → 0 < times_among c (children_of (matcher_at slots s)) → 0 < times_among c group
      → 0 < times_among s group
  pub once : (s : ℕ) → times_among s group ≤ live_count (matcher_at slots s)
  pub after : (i c : ℕ) → i < length group
      → 0 < times_among c (children_of (matcher_at slots (slice_index_or group i 0)))
      → 0 < times_among c group → 0 < times_among c (take i group)

-- So many questions were asked: the count rose by them, or stands at its end.
pub record HaveRisen (asked before now : ℕ) : Type 0 where
  pub later : before ≤ now
  pub most : now ≤ before + asked
  pub least : min (before + asked) last_tick ≤ now

-- how many different simple matchers of the atom's id are live
abbrev pub questions : Atom → List (Option SharedMatcher) → ℕ
questions atom slots = count_by (asks_about atom) slots

-- a judge may be asked about it
abbrev pub MayAskAbout : Option SharedMatcher → Type 0
MayAskAbout None = Unit {0}
MayAskAbout (Some (Simple matcher)) = IsAskable matcher
MayAskAbout (Some (Combination op children)) = Unit {0}
