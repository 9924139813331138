-- The key on which an atom acts, of the predicate that is a metric's condition: for private clauses.
use Rattle.std.specs.Prelude.{◌≡◌, ℕ, ◌==◌, Bool, true, List, slice_get, Option, Some, None}
use Rattle.std.specs.List.{find}
use Rattle.atom_record.specs.declared.atom.Atom.{Atom}
use Rattle.field_select.specs.declared.leaf.FieldSet.{FieldSet}
use Rattle.config_links.specs.declared.linked.LLink.{LLink}
use Rattle.config_links.specs.declared.linked.LMetric.{LMetric}
use Rattle.config_links.specs.declared.linked.LPredicate.{LPredicate}
use Rattle.predicate_state.specs.declared.event.PredEvent.{PredEvent}
use Rattle.predicate_state.specs.PredicateStates.{is_of_one}
use Rattle.predicate_state.specs.PredicateTable.{LeafKey}
use Rattle.predicate_state.specs.PredicateTruths.{agrees}
use Rattle.metric_meaning.specs.MetricConditions.{link_binds}
use Rattle.metric_meaning.specs.Readings.{key_reading}
use Rattle.metric_calls.specs.DurationCalls.{event_in}
use Rattle.client_engine.specs.declared.turn.Turn.{Turn}

-- the link asks for the key by the values that an inner key of these fields has
abbrev pub asks_for_turn : FieldSet → LeafKey → Turn → Bool
asks_for_turn fields key turn = agrees (link_binds (key_reading fields key) (Some turn.link.now)) turn.key

-- The atom acts on this key alone of the predicate that is the metric's condition, and this is the link that asks for
-- its keys.
pub record TurnsKey (predicates : List LPredicate) (metric : LMetric) (truths : List Bool) (atom : Atom) (turn : Turn)
    : Type 0 where
  pub root : ℕ
  pub event : PredEvent
  pub asks : metric.condition ≡ Some root
  pub acts : event_in (slice_get predicates root) truths atom ≡ Some (record { event = event; key = turn.key })
  pub of_one : is_of_one event ≡ true
  pub linked : find (λ (link : LLink). link.predicate == root) metric.links ≡ Some turn.link.now

-- it does, if there is such a key
abbrev pub IsTurn : List LPredicate → LMetric → List Bool → Atom → Option Turn → Type 0
IsTurn predicates metric truths atom None = Unit {0}
IsTurn predicates metric truths atom (Some turn) = TurnsKey predicates metric truths atom turn
