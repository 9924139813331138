-- The truth of a condition, read from the predicates and their tables alone.
use Rattle.std.specs.Prelude.{◌≡◌, ℕ, ◌<◌, ◌≤◌, List, map, length, Option, Some, None}
use Rattle.std.specs.List.{slice_get}
use Rattle.std.specs.Option.{IfSome}
use Rattle.link_graph.specs.Links.{AreInRange, HasNoCycle}
use Rattle.link_graph.specs.Unrolling.{unroll}
use Rattle.config_links.specs.declared.linked.LPredicate.{LPredicate}
use Rattle.config_links.specs.declared.linked.LPredBody.{LPredBody}
use Rattle.config_links.specs.declared.linked.LPredBody.TheVariants.{Simple, Combo}
use Rattle.config_links.specs.declared.linked.CondTree.{CondTree}
use Rattle.config_links.specs.LinkScopes.{named_predicates}
use Rattle.config_links.specs.SoundConfig.{most_predicates}
use Rattle.predicate_state.specs.declared.truth.Truth.{Truth}
use Rattle.predicate_state.specs.declared.truth.Truth.TheVariants.{Unknown, True}
use Rattle.predicate_state.specs.declared.bind.Bind.{Bind}
use Rattle.predicate_state.specs.PredicateTable.{PredicateTable}
use Rattle.predicate_state.specs.PredicateTruths.{binds_truth}
use Rattle.condition_links.specs.ThreeValues.{combined3}

-- what the predicates of a list name, in config order
abbrev pub predicate_names : List LPredicate → List (List ℕ)
predicate_names predicates = map named_predicates predicates

-- what a table says under some binds
abbrev pub table_truth : Option PredicateTable → Option (List Bind) → Truth
table_truth None binds = Unknown
table_truth (Some table) None = Unknown
table_truth (Some table) (Some binds) = binds_truth table.spec.leaves table.state binds

-- what the table at a place says under the binds there
abbrev pub table_truth_at : List PredicateTable → List (List Bind) → ℕ → Truth
table_truth_at tables binds at = table_truth (slice_get tables at) (slice_get binds at)

-- the truth of one predicate: its own if it is simple, and else its children's, joined
abbrev pub truth_of_body : Truth → (ℕ → Truth) → LPredBody → Truth
truth_of_body own truth (Simple start stop stop_all dims spec) = own
truth_of_body own truth (Combo op children) = combined3 op (map truth children)

-- the same of the predicate that was found at a place
abbrev pub truth_of_found : Truth → (ℕ → Truth) → Option LPredicate → Truth
truth_of_found own truth None = Unknown
truth_of_found own truth (Some predicate) = truth_of_body own truth predicate.body

-- the truth at one place, where the truth at each place is given
abbrev pub condition_step : List PredicateTable → List (List Bind) → List LPredicate → (ℕ → Truth) → ℕ → Truth
condition_step tables binds nodes truth at = truth_of_found (table_truth_at tables binds at) truth (slice_get nodes at)

-- the truth of the predicate at a place: references are followed as deep as there are predicates
abbrev pub predicate_truth : List PredicateTable → List (List Bind) → List LPredicate → ℕ → Truth
predicate_truth tables binds nodes = unroll (condition_step tables binds nodes) Unknown (length nodes)

-- no condition is true
abbrev pub root_truth : (ℕ → Truth) → Option ℕ → Truth
root_truth truth None = True
root_truth truth (Some root) = truth root

-- the truth of a condition
abbrev pub condition_of : CondTree → List PredicateTable → List (List Bind) → Truth
condition_of tree tables binds = root_truth (predicate_truth tables binds tree.nodes) tree.root

-- What a linked condition keeps.
pub record IsSoundTree (tree : CondTree) : Type 0 where
  pub few : length tree.nodes ≤ most_predicates
  pub root : IfSome tree.root (λ root. root < length tree.nodes)
  pub in_range : AreInRange (predicate_names tree.nodes)
  pub no_cycle : HasNoCycle (predicate_names tree.nodes)

-- There is one table and one bind list for each predicate.
pub record AreTables (nodes : List LPredicate) (tables : List PredicateTable) (binds : List (List Bind)) : Type 0 where
  pub one_table : length tables ≡ length nodes
  pub one_list : length binds ≡ length nodes
