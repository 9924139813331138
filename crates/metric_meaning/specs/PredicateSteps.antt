-- What steps make of predicates: an atom acts by the first of stop-all, stop and start whose matcher holds.
use Rattle.std.specs.Prelude.{ℕ, nat_lt, Bool, false, List, [], ◌∷◌, map, Option, Some, None, if◌then◌else◌}
use Rattle.std.specs.List.{flat_map}
use Rattle.atom_record.specs.declared.atom.Atom.{Atom}
use Rattle.atom_record.specs.declared.log.LogFrame.TheVariants.{AtomAt}
use Rattle.config_types.specs.declared.parameters.PredSpec.{PredSpec}
use Rattle.field_select.specs.LeafValues.{key_of}
use Rattle.config_links.specs.declared.linked.LPredicate.{LPredicate}
use Rattle.config_links.specs.declared.linked.LPredBody.{LPredBody}
use Rattle.config_links.specs.declared.linked.LPredBody.TheVariants.{Simple, Combo}
use Rattle.predicate_state.specs.declared.event.PredEvent.{PredEvent}
use Rattle.predicate_state.specs.declared.event.PredEvent.TheVariants.{Start, Stop, StopAll}
use Rattle.predicate_state.specs.PredicateStates.{KeyEvent, state_from, predicate_after}
use Rattle.predicate_state.specs.PredicateTable.{LeafKey, same_leaves, PredicateTable, with_state}
use Rattle.report_writer.specs.declared.tree.Drop64.{Drop64}
use Rattle.metric_meaning.specs.Histories.{What, Logged, Step, truth_at}

-- the matcher at this place holds, if one is named
abbrev pub named_truth : Option ℕ → List Bool → Bool
named_truth None truths = false
named_truth (Some place) truths = truth_at place truths

-- what an atom does to a predicate, by which of its matchers hold
abbrev pub first_event : Bool → Bool → Bool → Option PredEvent
first_event stops_all stops starts =
    if stops_all then Some StopAll else (if stops then Some Stop else (if starts then Some Start else None))

-- an event acts on the key that the atom has at the predicate's dimensions
abbrev pub on_key : LeafKey → Option PredEvent → List (KeyEvent LeafKey)
on_key key None = []
on_key key (Some event) = record { event = event; key = key } ∷ []

-- what an atom does to a simple predicate; a combination has no keys
abbrev pub atom_events : LPredBody → List Bool → Atom → List (KeyEvent LeafKey)
atom_events (Simple start stop stop_all dims spec) truths atom =
    on_key (key_of dims atom)
    (first_event (named_truth stop_all truths) (named_truth stop truths) (named_truth start truths))
atom_events (Combo op children) truths atom = []

-- what a step does to a predicate: only atoms act
abbrev pub events_at : LPredicate → Step → List (KeyEvent LeafKey)
events_at predicate step = of_what step.what where
  of_what : What → List (KeyEvent LeafKey)
  of_what (Logged (AtomAt at atom)) = atom_events predicate.body step.truths atom
  of_what _ = []

-- how the table of a predicate is kept; that of a combination stays empty
abbrev pub table_spec : LPredBody → PredSpec
table_spec (Simple start stop stop_all dims spec) = spec
table_spec (Combo op children) = record { nesting = false; unknown = false; bound = 1; leaves = 0 }

-- a table after these events more
abbrev pub table_with : List (KeyEvent LeafKey) → PredicateTable → PredicateTable
table_with events table = with_state table (state_from same_leaves table.spec table.state events)

-- what a predicate knows after these steps
abbrev pub table_after : LPredicate → List Step → PredicateTable
table_after predicate steps =
    let spec = table_spec predicate.body in
    record { spec = spec; state = predicate_after same_leaves spec (flat_map (events_at predicate) steps) }

-- what all predicates know after these steps, in config order
abbrev pub tables_after : List LPredicate → List Step → List PredicateTable
tables_after predicates steps = map (λ (predicate : LPredicate). table_after predicate steps) predicates

-- a count above 0, by an id
abbrev pub drop_above_zero : Drop64 → List Drop64
drop_above_zero drop = if nat_lt 0 drop.number then drop ∷ [] else []

-- how often a key of a predicate found no room since the installation, for each predicate where that is so
abbrev pub predicate_drops : List LPredicate → List Step → List Drop64
predicate_drops predicates steps =
    flat_map (λ (predicate : LPredicate). drop_above_zero (record {
      id = predicate.id;
      number = (table_after predicate steps).state.dropped;
    })) predicates
