-- After an evaluation held slots have the truths of the configuration's own matchers.
use Rattle.std.proofs.Common.{◌≡◌, ℕ, zero, suc, ◌<◌, Bool, false, List, [], ◌∷◌, length, map, get_or, Option, Some, None, refl, ap, ◌∙◌, arith}
use Rattle.std.specs.List.{slice_get}
use Rattle.std.proofs.lemmas.List.{length-map, get_or-map}
use Rattle.std.proofs.lemmas.List.FromFn.{fill_by_all}
use Rattle.atom_record.specs.declared.atom.Atom.{Atom}
use Rattle.config_types.specs.declared.matcher.SimpleMatcher.{SimpleMatcher}
use Rattle.config_links.specs.declared.linked.LMatcher.{LMatcher}
use Rattle.config_links.specs.declared.linked.LMatcher.TheVariants.{Simple, Combo}
use Rattle.link_graph.specs.Links.{AreInRange, HasNoCycle}
use Rattle.link_graph.specs.Unrolling.{unroll}
use Rattle.link_graph.proofs.NodeLemmas.{map_same}
use Rattle.matcher_eval.specs.Combined.{combined_truth}
use Rattle.matcher_truths.specs.MatcherTruths.{named_places, truth_from, truth_step, matches, all_truths}
use Rattle.matcher_table.specs.Tables.{SlotTable, result_at}
use Rattle.matcher_table.specs.Trees.{Tree, NoMatcher, trees_of}
use Rattle.matcher_table.specs.Truths.{Evaluates, tree_truth, trees_truths}
use Rattle.matcher_table.specs.TableFacts.{IsSoundTable}
use Rattle.matcher_table.specs.Contents.{contents_of}
use Rattle.matcher_table.specs.declared.table.MatcherTable.{MatcherTable}
use Rattle.matcher_table.proofs.TableLaws.{sound_table, had}
use Rattle.held_slots.specs.Holdings.{HoldMatchers, matcher_tree_from, matcher_tree_step}
use Rattle.held_slots.proofs.HoldingLaws.{held_live, held_tree}

module _ (says : SimpleMatcher → Atom → Bool) (atom : Atom) where
  truths_of_list : (trees : ℕ → Tree) (xs : List ℕ)
      → trees_truths says atom (trees_of (map trees xs)) ≡ map (λ x. tree_truth says atom (trees x)) xs
  truths_of_list trees [] = refl
  truths_of_list trees (x ∷ xs) =
      ap (λ (bs : List Bool). tree_truth says atom (trees x) ∷ bs) (truths_of_list trees xs)

  -- the truth of a matcher's tree comes from the truths of its children's trees
  truth-own : (trees : ℕ → Tree) (truth : ℕ → Bool) → ((y : ℕ) → tree_truth says atom (trees y) ≡ truth y)
      → (o : Option LMatcher) → tree_truth says atom (matcher_tree_from trees o) ≡ truth_from says atom truth o
  truth-own trees truth same None = refl
  truth-own trees truth same (Some (Simple simple)) = refl
  truth-own trees truth same (Some (Combo op children)) =
      ap (combined_truth op) (truths_of_list trees children
      ∙ map_same (λ x. tree_truth says atom (trees x)) truth children (λ y named. same y))

  -- the truth of a tree is the truth, followed as deep
  truth_unrolled : (matchers : List LMatcher) (depth x : ℕ)
      → tree_truth says atom (unroll (matcher_tree_step matchers) NoMatcher depth x)
      ≡ unroll (truth_step says atom matchers) false depth x
  truth_unrolled matchers zero x = refl
  truth_unrolled matchers (suc depth) x =
      truth-own (unroll (matcher_tree_step matchers) NoMatcher depth)
      (unroll (truth_step says atom matchers) false depth)
      (truth_unrolled matchers depth) (slice_get matchers x)

  module _ (old new : SlotTable) (slots : List ℕ) (matchers : List LMatcher)
      (in_range : AreInRange (named_places matchers)) (no_cycle : HasNoCycle (named_places matchers))
      (sound : IsSoundTable new) (evaluates : Evaluates says atom old new)
      (holds : HoldMatchers new slots matchers) where
    held_truth : (place : ℕ) → place < length matchers
        → result_at new (get_or slots place 0) ≡ matches says atom matchers place
    held_truth place h =
        evaluates.results (get_or slots place 0) (held_live new slots matchers holds place h)
        ∙ ap (tree_truth says atom) (held_tree matchers in_range no_cycle new slots sound holds place h)
        ∙ truth_unrolled matchers (length matchers) place

    -- the results of what is held are the configuration's truths
    pub held_truths : map (result_at new) slots ≡ all_truths says atom matchers
    held_truths =
        fill_by_all (matches says atom matchers) (map (result_at new) slots) (length matchers) false
        (length-map slots (result_at new) ∙ holds.each) (λ k lower.
        get_or-map (result_at new) slots k 0 false (omega (arith, holds.each)) ∙ held_truth k lower)

-- the law of every table
pub table_sound : (table : MatcherTable) → IsSoundTable (contents_of table)
table_sound table = sound_table table.store (had table.store table.sound)
