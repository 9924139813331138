-- For callers: at an atom that a configuration doesn't hear its matchers are as where no simple one holds.
use Rattle.std.proofs.Common.{◌≡◌, ℕ, zero, suc, Bool, false, List, [], ◌∷◌, length, map, Option, Some, None, refl, sym, ap, subst, ◌∙◌}
use Rattle.std.specs.Prelude.{◌==◌}
use Rattle.std.specs.List.{slice_get, flat_map, list_any, range_with_len}
use Rattle.std.proofs.lemmas.Bool.{eqb-false, ne_eqb, or_parts, and_left}
use Rattle.std.proofs.lemmas.List.Concat.{flat_map_single}
use Rattle.std.proofs.lemmas.List.Folds.{list_any-append}
use Rattle.atom_record.specs.declared.atom.Atom.{Atom}
use Rattle.config_types.specs.declared.matcher.SimpleMatcher.{SimpleMatcher}
use Rattle.config_links.specs.declared.linked.LMatcher.{LMatcher}
use Rattle.config_links.specs.declared.linked.LMatcher.TheVariants.{Simple, Combo}
use Rattle.config_links.specs.declared.linked.LMetric.{LMetric}
use Rattle.config_links.specs.declared.linked.LPredicate.{LPredicate}
use Rattle.config_links.specs.declared.linked.LState.{LState}
use Rattle.config_links.specs.declared.linked.Linked.{Linked}
use Rattle.config_links.specs.OwnMatchers.{predicate_matchers, metric_matchers}
use Rattle.link_graph.specs.Unrolling.{unroll}
use Rattle.link_graph.proofs.NodeLemmas.{map_same}
use Rattle.matcher_eval.specs.AtomTests.{number_set}
use Rattle.matcher_eval.specs.Combined.{combined_truth}
use Rattle.matcher_truths.specs.MatcherTruths.{is_of_atom, truth_from, truth_step, matches, all_truths}
use Rattle.heard_ids.specs.Hearing.{matched_id, is_heard, heeded_matchers, idle_from, idle_step, holds_idle, silent_truths, truth_listed, some_holds, hears_all}

-- where nothing in a row of lists passes, nothing in one of them does
module _ {X : Type 0} (test : ℕ → Bool) (lists : X → List ℕ) where
  none_at : (xs : List X) (place : ℕ) (x : X) → list_any test (flat_map lists xs) ≡ false
      → slice_get xs place ≡ Some x → list_any test (lists x) ≡ false
  none_at [] place x none is = absurd cc
  none_at (first ∷ xs) zero x none is =
      let same : first ≡ x = cc in
      subst (λ (y : X). list_any test (lists y) ≡ false) same
      (or_parts _ _ (sym (list_any-append test (lists first) (flat_map lists xs)) ∙ none)).0
  none_at (first ∷ xs) (suc place) x none is =
      none_at xs place x (or_parts _ _ (sym (list_any-append test (lists first) (flat_map lists xs)) ∙ none)).1 is

-- numbers differ either way round
other_way : (a b : ℕ) → (a == b) ≡ false → (b == a) ≡ false
other_way a b differ = ne_eqb b a (λ same. eqb-false a b differ (sym same))

module _ (linked : Linked) (id : ℕ) (unheard : is_heard linked id ≡ false) where
  abbrev is_id : ℕ → Bool
  is_id heard = heard == id

  abbrev told : List ℕ
  told = map (λ (state : LState). state.atom_id) linked.states

  neither : (list_any is_id (flat_map matched_id linked.matchers) ≡ false) × (list_any is_id told ≡ false)
  neither = or_parts _ _ (sym (list_any-append is_id (flat_map matched_id linked.matchers) told) ∙ unheard)

  -- no simple matcher is of an id that isn't heard
  pub unheard_matcher : (place : ℕ) (simple : SimpleMatcher) → slice_get linked.matchers place ≡ Some (Simple simple)
      → (id == number_set simple.atom_id) ≡ false
  unheard_matcher place simple is =
      other_way (number_set simple.atom_id) id
      (or_parts _ _ (none_at is_id matched_id linked.matchers place (Simple simple) neither.0 is)).0

  -- no state is told by atoms of an id that isn't heard
  pub unheard_state : (place : ℕ) (state : LState) → slice_get linked.states place ≡ Some state
      → (id == state.atom_id) ≡ false
  unheard_state place state is =
      other_way state.atom_id id
      (or_parts _ _
      (none_at is_id (λ (one : LState). one.atom_id ∷ []) linked.states place state
      (ap (list_any is_id) (flat_map_single (λ (one : LState). one.atom_id) linked.states) ∙ neither.1) is)).0

module _ (says : SimpleMatcher → Atom → Bool) (atom : Atom) (linked : Linked)
    (unheard : is_heard linked atom.id ≡ false) where
  -- no judge says anything of the matchers
  idle_found : (truth idle : ℕ → Bool) → ((y : ℕ) → truth y ≡ idle y) → (place : ℕ) (found : Option LMatcher)
      → slice_get linked.matchers place ≡ found → truth_from says atom truth found ≡ idle_from idle found
  idle_found truth idle same place None is = refl
  idle_found truth idle same place (Some (Simple simple)) is =
      and_left (is_of_atom atom simple) (says simple atom) (unheard_matcher linked atom.id unheard place simple is)
  idle_found truth idle same place (Some (Combo op children)) is =
      ap (combined_truth op) (map_same truth idle children (λ y named. same y))

  idle_unrolled : (depth place : ℕ) → unroll (truth_step says atom linked.matchers) false depth place
      ≡ unroll (idle_step linked.matchers) false depth place
  idle_unrolled zero place = refl
  idle_unrolled (suc depth) place =
      idle_found (unroll (truth_step says atom linked.matchers) false depth)
      (unroll (idle_step linked.matchers) false depth) (idle_unrolled depth) place
      (slice_get linked.matchers place) refl

  -- an atom that isn't heard leaves each matcher as it is where no simple one holds
  pub unheard_truths : all_truths says atom linked.matchers ≡ silent_truths linked.matchers
  unheard_truths =
      map_same (matches says atom linked.matchers) (holds_idle linked.matchers)
      (range_with_len 0 (length linked.matchers)) (λ y named. idle_unrolled (length linked.matchers) y)

  -- and where the configuration doesn't hear every atom, none of the matchers that it heeds holds
  pub unheard_holds_nothing : hears_all linked ≡ false
      → some_holds (all_truths says atom linked.matchers) (heeded_matchers linked) ≡ false
  unheard_holds_nothing not_all =
      ap (λ (truths : List Bool). some_holds truths (heeded_matchers linked)) unheard_truths ∙ not_all

module _ (linked : Linked) (truths : List Bool) (none : some_holds truths (heeded_matchers linked) ≡ false) where
  abbrev of_predicates : List ℕ
  of_predicates = flat_map (λ (predicate : LPredicate). predicate_matchers predicate.body) linked.predicates

  abbrev of_metrics : List ℕ
  of_metrics = flat_map metric_matchers linked.metrics

  none_of_either : (some_holds truths of_predicates ≡ false) × (some_holds truths of_metrics ≡ false)
  none_of_either =
      or_parts _ _
      (sym (list_any-append (λ place. truth_listed place truths) of_predicates of_metrics) ∙ none)

  -- where none of the matchers that a configuration heeds holds, none does that one of its predicates heeds
  pub none_of_predicate : (place : ℕ) (predicate : LPredicate) → slice_get linked.predicates place ≡ Some predicate
      → some_holds truths (predicate_matchers predicate.body) ≡ false
  none_of_predicate place predicate is =
      none_at (λ at. truth_listed at truths) (λ (one : LPredicate). predicate_matchers one.body)
      linked.predicates place predicate none_of_either.0 is

  -- and none that one of its metrics heeds
  pub none_of_metric : (place : ℕ) (metric : LMetric) → slice_get linked.metrics place ≡ Some metric
      → some_holds truths (metric_matchers metric) ≡ false
  none_of_metric place metric is =
      none_at (λ at. truth_listed at truths) metric_matchers
      linked.metrics place metric none_of_either.1 is
