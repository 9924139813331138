-- Events: what a producer of events makes of its calls.
use Rattle.std.specs.Prelude.{ℕ, List, [], ◌∷◌}
use Rattle.atom_record.specs.declared.atom.Atom.{Atom}
use Rattle.atom_record.specs.declared.value.MetricKey.{MetricKey}
use Rattle.bucket_meaning.specs.Marks.{Came, Ends, no_edges}
use Rattle.metric_producer.specs.Calls.{Call, Demands}
use Rattle.metric_producer.specs.LaneCalls.{event_demands}
use Rattle.metric_producer.specs.Collecting.{Collecting}
use Rattle.metric_producer.specs.declared.row.Row.{Row}
use Rattle.metric_kinds.specs.Events.{EventAtom, event_key, event_kind}

-- a call of a producer of events
abbrev pub EventCall : Type 0
EventCall = Call Atom (Unit {0})

-- it takes every atom, and has no buckets, so that no call crosses an end or cuts a part
abbrev pub events_demand : ℕ → Demands Atom (Unit {0})
events_demand base = event_demands base 0

-- by when its time begins: each atom is a part of its own, which ends with it, and a condition changes nothing
abbrev pub event_collecting
    : Collecting ℕ Atom (Unit {0}) (MetricKey × EventAtom) MetricKey EventAtom (Row (List Atom))
event_collecting = record {
  demands = events_demand;
  bound = λ base. 1;
  kind = λ base. event_kind;
  comes = λ base before at atom. Came (event_key, record { at = at; atom = atom }) ∷ Ends at ∷ [];
  learns = λ base before at now. [];
  edges = λ base before. no_edges;
}
