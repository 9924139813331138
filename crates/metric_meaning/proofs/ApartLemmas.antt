-- A condition that is a simple predicate stays for what is read, where an atom acts on a key of the predicate that
-- isn't asked for.
use Rattle.std.proofs.Common.{◌≡◌, ℕ, ◌<◌, true, false, List, [], ◌∷◌, ◌++◌, map, length, get_or, slice_get, Some, refl, sym, ap, ◌∙◌, arith}
use Rattle.std.specs.List.{range_with_len}
use Rattle.std.specs.Option.{option_map}
use Rattle.std.proofs.lemmas.List.FromFn.{length-range_with_len, get_or-range_with_len}
use Rattle.std.proofs.lemmas.Option.{none-some, slice_get_read, slice_get-map, slice_get_within}
use Rattle.link_graph.specs.Unrolling.{unroll}
use Rattle.config_links.specs.declared.linked.LMetric.{LMetric}
use Rattle.config_links.specs.declared.linked.LPredicate.{LPredicate}
use Rattle.config_links.specs.declared.linked.LPredBody.{LPredBody}
use Rattle.config_links.specs.declared.linked.LPredBody.TheVariants.{Simple, Combo}
use Rattle.predicate_state.specs.declared.bind.Bind.{Bind}
use Rattle.predicate_state.specs.declared.truth.Truth.{Truth}
use Rattle.predicate_state.specs.declared.truth.Truth.TheVariants.{Unknown}
use Rattle.predicate_state.specs.PredicateStates.{KeyEvent, is_of_one}
use Rattle.predicate_state.specs.PredicateTable.{PredicateTable, LeafKey}
use Rattle.predicate_state.specs.PredicateTruths.{agrees, binds_truth}
use Rattle.predicate_state.proofs.ApartLemmas.{answer_stays}
use Rattle.condition_links.specs.Conditions.{table_truth, table_truth_at, truth_of_body, truth_of_found, condition_step, predicate_truth, root_truth}
use Rattle.metric_meaning.specs.Histories.{Step}
use Rattle.metric_meaning.specs.PredicateSteps.{events_at, table_with, table_after, tables_after}
use Rattle.metric_meaning.specs.Readings.{LeafReading}
use Rattle.metric_meaning.specs.MetricConditions.{binds_at, metric_binds, condition_truth}
use Rattle.metric_meaning.specs.Touched.{acts_on}
use Rattle.metric_meaning.proofs.PredicateStepsLemmas.{table_after-push}
use Rattle.metric_meaning.proofs.TouchedLemmas.{step_idle}

-- a predicate on which a step acts is simple: its truth is what its own table says
acting_simple : (predicate : LPredicate) (step : Step) (event : KeyEvent LeafKey)
    → events_at predicate step ≡ event ∷ [] → (own : Truth) (truth : ℕ → Truth)
    → truth_of_body own truth predicate.body ≡ own
acting_simple predicate step event acts own truth = by predicate.body refl where
  by : (body : LPredBody) → predicate.body ≡ body → truth_of_body own truth body ≡ own
  by (Simple start stop stop_all dims spec) is = refl
  by (Combo op children) is =
      let idle = step_idle predicate step.at step.what step.truths
      (ap (λ b. acts_on step.truths (record predicate { body = b })) is) in
      let none : 0 ≡ 1 = ap length (sym idle ∙ acts) in absurd (omega (arith, none))

-- the truth at the place of a simple predicate
own_truth : (tables : List PredicateTable) (binds : List (List Bind)) (predicates : List LPredicate) (root : ℕ)
    (predicate : LPredicate) → slice_get predicates root ≡ Some predicate
    → ((own : Truth) (truth : ℕ → Truth) → truth_of_body own truth predicate.body ≡ own)
    → predicate_truth tables binds predicates root ≡ table_truth_at tables binds root
own_truth tables binds [] root predicate there simple = absurd (none-some predicate there)
own_truth tables binds (first ∷ predicates) root predicate there simple =
    let own = table_truth_at tables binds root in
    let deeper = unroll (condition_step tables binds (first ∷ predicates)) Unknown (length predicates) in
    ap (truth_of_found own deeper) there ∙ simple own deeper

-- the number at a place
counted : (n at : ℕ) → at < n → slice_get (range_with_len 0 n) at ≡ Some at
counted n at within =
    let is : get_or (range_with_len 0 n) at at ≡ at =
    get_or-range_with_len 0 n at at within ∙ omega arith in
    slice_get_read (range_with_len 0 n) n at at (sym (length-range_with_len 0 n)) within (sym is)

module _ (predicates : List LPredicate) (before : List Step) (step : Step) (metric : LMetric) (reading : LeafReading)
    (root : ℕ) (predicate : LPredicate) (event : KeyEvent LeafKey) (asks : metric.condition ≡ Some root)
    (there : slice_get predicates root ≡ Some predicate) (acts : events_at predicate step ≡ event ∷ []) where
  -- what is asked of the predicate
  abbrev asked : List Bind
  asked = binds_at metric.links reading root

  -- the truth of the condition after some steps is what the predicate's table then says
  condition_own : (steps : List Step)
      → condition_truth predicates (tables_after predicates steps) metric reading
      ≡ binds_truth (table_after predicate steps).spec.leaves (table_after predicate steps).state asked
  condition_own steps =
      let tables = tables_after predicates steps in
      let binds = metric_binds predicates metric reading in
      let table_there : slice_get tables root ≡ Some (table_after predicate steps) =
      slice_get-map (λ (p : LPredicate). table_after p steps) predicates root
      ∙ ap (option_map (λ (p : LPredicate). table_after p steps)) there in
      let binds_there : slice_get binds root ≡ Some asked =
      slice_get-map (binds_at metric.links reading) (range_with_len 0 (length predicates)) root
      ∙ ap (option_map (binds_at metric.links reading))
      (counted (length predicates) root (slice_get_within predicates root predicate there)) in
      ap (root_truth (predicate_truth tables binds predicates)) asks
      ∙ own_truth tables binds predicates root predicate there (acting_simple predicate step event acts)
      ∙ ap (λ table. table_truth table (slice_get binds root)) table_there
      ∙ ap (table_truth (Some (table_after predicate steps))) binds_there

  -- it stays where the event acts on a key alone for which nothing asks
  pub condition_stays_apart : is_of_one event.event ≡ true → agrees asked event.key ≡ false
      → condition_truth predicates (tables_after predicates (before ++ step ∷ [])) metric reading
      ≡ condition_truth predicates (tables_after predicates before) metric reading
  condition_stays_apart one apart =
      let old = table_after predicate before in
      condition_own (before ++ step ∷ [])
      ∙ ap (λ (table : PredicateTable). binds_truth table.spec.leaves table.state asked)
      (table_after-push predicate before step ∙ ap (λ events. table_with events old) acts)
      ∙ answer_stays asked event.key apart old.spec.leaves old.spec old.state event.event one
      ∙ sym (condition_own before)
