-- Where no matcher holds that wakes a metric, none of its parts does: lemmas on `specs/Waking.antt`.
use Rattle.std.proofs.Common.{◌≡◌, ℕ, zero, suc, Bool, false, ◌||◌, List, [], ◌∷◌, Some, slice_get, sym, ap, subst, ◌∙◌}
use Rattle.std.specs.List.{flat_map}
use Rattle.std.proofs.lemmas.Bool.{or_parts}
use Rattle.std.proofs.lemmas.List.Folds.{list_any-append}
use Rattle.config_links.specs.OwnMatchers.{kind_matchers, activation_matchers, starting_matchers, metric_matchers}
use Rattle.config_links.specs.declared.linked.LActivation.{LActivation}
use Rattle.config_links.specs.declared.linked.LMetric.{LMetric}
use Rattle.config_links.specs.declared.linked.LPredicate.{LPredicate}
use Rattle.metric_meaning.specs.Histories.{truth_at}
use Rattle.metric_meaning.specs.PredicateSteps.{named_truth}
use Rattle.known_conditions.specs.Touchers.{one_holds}
use Rattle.client_engine.specs.Waking.{told_touchers, wakers}
use Rattle.known_conditions.proofs.TouchersLemmas.{named_holds}

module _ (predicates : List LPredicate) (metric : LMetric) (truths : List Bool)
    (off : one_holds truths (wakers predicates metric) ≡ false) where
  abbrev holds : ℕ → Bool
  holds matcher = truth_at matcher truths

  parts : (one_holds truths (metric_matchers metric) ≡ false)
      × (one_holds truths (told_touchers predicates metric) ≡ false)
  parts =
      or_parts _ _ (sym (list_any-append holds (metric_matchers metric) (told_touchers predicates metric)) ∙ off)

  own_parts : (one_holds truths (kind_matchers metric.what metric.kind) ≡ false)
      × (one_holds truths (starting_matchers metric) ≡ false)
  own_parts =
      or_parts _ _
      (sym (list_any-append holds (kind_matchers metric.what metric.kind) (starting_matchers metric)) ∙ parts.0)

  -- none that touches what it is told of
  pub told_off : one_holds truths (told_touchers predicates metric) ≡ false
  told_off = parts.1

  -- none by which it gets atoms
  pub kind_off : one_holds truths (kind_matchers metric.what metric.kind) ≡ false
  kind_off = own_parts.0

  -- and none that starts or cancels an activation
  pub starting_off : one_holds truths (starting_matchers metric) ≡ false
  starting_off = own_parts.1

-- where none holds that starts or cancels one of these, none does of one that is found
none_of : (truths : List Bool) (ones : List LActivation) (place : ℕ) (one : LActivation)
    → one_holds truths (flat_map activation_matchers ones) ≡ false → slice_get ones place ≡ Some one
    → one_holds truths (activation_matchers one) ≡ false
none_of truths [] place one off is = absurd cc
none_of truths (first ∷ ones) zero one off is =
    let same : first ≡ one = cc in
    subst (λ (it : LActivation). one_holds truths (activation_matchers it) ≡ false) same
    (or_parts _ _ (sym (list_any-append (λ matcher. truth_at matcher truths) (activation_matchers first)
    (flat_map activation_matchers ones)) ∙ off)).0
none_of truths (first ∷ ones) (suc place) one off is =
    none_of truths ones place one
    (or_parts _ _ (sym (list_any-append (λ matcher. truth_at matcher truths) (activation_matchers first)
    (flat_map activation_matchers ones)) ∙ off)).1 is

-- so an atom neither starts nor cancels it
pub neither : (truths : List Bool) (ones : List LActivation) (place : ℕ) (one : LActivation)
    → one_holds truths (flat_map activation_matchers ones) ≡ false → slice_get ones place ≡ Some one
    → (truth_at one.start truths || named_truth one.cancel truths) ≡ false
neither truths ones place one off is =
    ap (λ b. truth_at one.start truths || b) (sym (named_holds one.cancel truths))
    ∙ none_of truths ones place one off is
