-- What a producer of events stands for.
use Rattle.std.specs.Prelude.{◌≡◌, ℕ, List, []}
use Rattle.atom_record.specs.declared.atom.Atom.{Atom}
use Rattle.atom_record.specs.declared.value.MetricKey.{MetricKey}
use Rattle.kept_rows.specs.KeptRows.{IsKept}
use Rattle.bucket_meaning.specs.Marks.{Books}
use Rattle.bucket_meaning.specs.Rows.{closed_rows}
use Rattle.bucket_meaning.specs.Meaning.{books_by}
use Rattle.metric_producer.specs.declared.row.Row.{Row}
use Rattle.metric_producer.specs.Collecting.{calls_mean, Law}
use Rattle.metric_kinds.specs.Events.{EventAtom, event_kind}
use Rattle.gauge_metric.specs.declared.events.EventProducer.{EventProducer}
use Rattle.gauge_metric.specs.Eventing.{EventCall, event_collecting}

-- the producer holds these books: all that came is closed, and nothing was dropped
pub record HasEvents (it : EventProducer) (base : ℕ) (books : Books (MetricKey × EventAtom)) : Type 0 where
  pub closed_all : books.came ≡ []
  pub kept : IsKept event_kind.weight (closed_rows event_kind 1 books) it.kept
  pub none_dropped : books.dropped ≡ 0
  pub none_missing : books.missing ≡ 0

-- the producer's time began at `base`, and it has got these calls
abbrev pub EventsStandFor : EventProducer → ℕ → List EventCall → Type 0
EventsStandFor it base calls = HasEvents it base (books_by (calls_mean event_collecting) base calls)

-- the law of events
abbrev pub event_law
    : Law EventProducer ℕ Atom (Unit {0}) (MetricKey × EventAtom) MetricKey EventAtom (Row (List Atom))
event_law = record { stands = EventsStandFor; collecting = event_collecting }
