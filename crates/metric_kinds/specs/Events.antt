-- Metrics of events: each atom that arrives is a row of its own.
use Rattle.std.specs.Prelude.{ℕ, List, [], ◌∷◌, map}
use Rattle.std.proofs.Common.{refl}
use Rattle.atom_record.specs.declared.atom.Atom.{Atom}
use Rattle.atom_record.specs.declared.value.MetricKey.{MetricKey}
use Rattle.bucket_meaning.specs.Guard.{arrival_key}
use Rattle.bucket_meaning.specs.Rows.{Kind, not_shown}
use Rattle.metric_producer.specs.declared.row.Row.{Row}
use Rattle.metric_kinds.specs.Keys.{is_same_key}

-- An atom that arrived as an event, and when it was logged.
pub record EventAtom : Type 0 where
  pub at : ℕ
  pub atom : Atom

-- events have no dimensions and no states: they all have this key
abbrev pub event_key : MetricKey
event_key = record { dims = []; slices = [] }

-- the row of an event, which begins and ends at its time
abbrev pub event_row : EventAtom → Row (List Atom)
event_row event = record { key = event_key; start = event.at; end = event.at; value = event.atom ∷ [] }

-- a metric of events: what arrives is the one key with an atom and its time, and each of them is a row, wherever the
-- part begins and ends; a row weighs 1
abbrev pub event_kind : Kind (MetricKey × EventAtom) MetricKey EventAtom (Row (List Atom))
event_kind = record {
  same = is_same_key;
  arrivals = λ came end. came;
  keys = λ came. map arrival_key came;
  keys_are = λ came end. refl;
  row = λ start end key events. map event_row events;
  others = not_shown;
  weight = λ row. 1;
}
