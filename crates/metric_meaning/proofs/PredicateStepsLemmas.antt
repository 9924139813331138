-- What predicates know after one more step: lemmas on `specs/PredicateSteps.antt`, for the proofs of instances.
use Rattle.std.proofs.Common.{◌≡◌, List, [], ◌∷◌, ◌++◌, refl, ap, ◌∙◌}
use Rattle.std.specs.List.{flat_map}
use Rattle.std.proofs.lemmas.List.{append-nil}
use Rattle.std.proofs.lemmas.Grind.{flat_map-append}
use Rattle.config_types.specs.declared.parameters.PredSpec.{PredSpec}
use Rattle.config_links.specs.declared.linked.LPredicate.{LPredicate}
use Rattle.predicate_state.specs.PredicateStates.{KeyEvent, PredicateState, initial_state, state_after, state_from}
use Rattle.predicate_state.specs.PredicateTable.{LeafKey, same_leaves, with_state}
use Rattle.metric_meaning.specs.Histories.{Step}
use Rattle.metric_meaning.specs.PredicateSteps.{events_at, table_spec, table_with, table_after, tables_after}

-- events act one after the other
state_from-append : (spec : PredSpec) (state : PredicateState LeafKey) (events more : List (KeyEvent LeafKey))
    → state_from same_leaves spec state (events ++ more)
    ≡ state_from same_leaves spec (state_from same_leaves spec state events) more
state_from-append spec state [] more = refl
state_from-append spec state (first ∷ events) more =
    state_from-append spec (state_after same_leaves spec state first.event first.key) events more

-- the events of one more step come last
events-push : (predicate : LPredicate) (steps : List Step) (step : Step)
    → flat_map (events_at predicate) (steps ++ step ∷ [])
    ≡ flat_map (events_at predicate) steps ++ events_at predicate step
events-push predicate steps step =
    flat_map-append (events_at predicate) steps (step ∷ [])
    ∙ ap (λ l. flat_map (events_at predicate) steps ++ l) (append-nil (events_at predicate step))

-- what a predicate knows after one more step: the events of the step act on what it knew
pub table_after-push : (predicate : LPredicate) (steps : List Step) (step : Step)
    → table_after predicate (steps ++ step ∷ [])
    ≡ table_with (events_at predicate step) (table_after predicate steps)
table_after-push predicate steps step =
    let spec = table_spec predicate.body in
    ap (with_state (table_after predicate steps))
    (ap (state_from same_leaves spec (initial_state spec)) (events-push predicate steps step)
    ∙ state_from-append spec (initial_state spec) (flat_map (events_at predicate) steps) (events_at predicate step))

-- a step that does nothing to any predicate changes nothing
pub tables_after-idle : (predicates : List LPredicate) (steps : List Step) (step : Step)
    → ((predicate : LPredicate) → events_at predicate step ≡ [])
    → tables_after predicates (steps ++ step ∷ []) ≡ tables_after predicates steps
tables_after-idle [] steps step idle = refl
tables_after-idle (predicate ∷ predicates) steps step idle =
    ap (λ table. table ∷ tables_after predicates (steps ++ step ∷ []))
    (table_after-push predicate steps step
    ∙ ap (λ events. table_with events (table_after predicate steps)) (idle predicate))
    ∙ ap (λ tables. table_after predicate steps ∷ tables) (tables_after-idle predicates steps step idle)
