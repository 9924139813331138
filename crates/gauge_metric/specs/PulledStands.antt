-- What a pulled gauge stands for.
use Rattle.std.specs.Prelude.{◌≡◌, ℕ, zero, suc, ◌+◌, ◌*◌, ◌^◌, ◌<◌, ◌≤◌, List, [], ◌++◌, map, Option}
use Rattle.atom_record.specs.declared.atom.Atom.{Atom}
use Rattle.atom_record.specs.declared.value.MetricKey.{MetricKey}
use Rattle.bucket_clock.specs.declared.crossings.Crossings.{Crossings}
use Rattle.bucket_clock.specs.Clock.{last_end}
use Rattle.bucket_meaning.specs.Marks.{Mark, Came, Books, books_from, books_of}
use Rattle.bucket_meaning.specs.Kept.{count_in_u64}
use Rattle.bucket_meaning.specs.Rows.{drops, closed_rows}
use Rattle.bucket_meaning.specs.Meaning.{books_by}
use Rattle.dim_table.specs.Table.{Table}
use Rattle.kept_rows.specs.KeptRows.{Keeping, IsKept, AddsRows}
use Rattle.predicate_state.specs.declared.truth.Truth.{Truth}
use Rattle.metric_producer.specs.declared.row.Row.{Row}
use Rattle.metric_producer.specs.Collecting.{calls_mean, Law}
use Rattle.metric_kinds.specs.Gauges.{samples_weight, gauge_kind}
use Rattle.gauge_metric.specs.declared.gauge.KeyedAtom.{KeyedAtom}
use Rattle.gauge_metric.specs.declared.snapshot.SnapAtoms.{SnapAtoms}
use Rattle.gauge_metric.specs.declared.pulled.Brought.{Brought}
use Rattle.gauge_metric.specs.declared.pulled.PulledGauge.{PulledGauge}
use Rattle.gauge_metric.specs.GaugeStands.{sample_row, AreSampled, HaveSamples}
use Rattle.gauge_metric.specs.PulledSampling.{PulledGaugeParams, PulledGaugeCall, last_snapshot, last_condition, is_start_moment, keyed, moment_marks, marks_if, pulled_collecting}

-- The gauge holds these books. The table's own count is handed over after each moment.
pub record HoldsSampled (it : PulledGauge) (params : PulledGaugeParams)
    (books : Books (MetricKey × Atom)) : Type 0 where
  pub bound : it.table.bound ≡ params.bound
  pub samples : it.samples ≡ params.spec.samples
  pub some : 1 ≤ params.spec.samples
  pub mode : it.mode ≡ params.spec.mode
  pub start : it.start ≡ books.start
  pub table : AreSampled params.spec.samples it.table books.came 0
  pub kept : IsKept samples_weight (closed_rows (gauge_kind params.spec.samples) params.bound books) it.kept
  pub dropped : it.dropped ≡ count_in_u64 books.dropped
  pub missing : it.missing ≡ count_in_u64 books.missing

-- the gauge was made with these, and has got these calls: it holds their books, and has what they told last
pub record PulledGaugeStandsFor (it : PulledGauge) (params : PulledGaugeParams)
    (calls : List PulledGaugeCall) : Type 0 where
  pub books : HoldsSampled it params (books_by (calls_mean pulled_collecting) params calls)
  pub snapshot : it.snapshot ≡ last_snapshot calls
  pub told : it.told ≡ last_condition calls

-- the law of pulled gauges
abbrev pub pulled_law
    : Law PulledGauge PulledGaugeParams SnapAtoms Truth (MetricKey × Atom) MetricKey Atom (Row (List Atom))
pulled_law = record { stands = PulledGaugeStandsFor; collecting = pulled_collecting }

-- several samples come: whatever came before, the new table has the samples with them
pub record TakesSamples (samples : ℕ) (old new : Table MetricKey (List Atom)) (events : List KeyedAtom)
    : Type 0 where
  pub bound : new.bound ≡ old.bound
  pub sampled_are : (books : Books (MetricKey × Atom)) → AreSampled samples old books.came books.dropped
      → let later = books_from (drops (gauge_kind samples) old.bound) books (map Came (keyed events)) in
      AreSampled samples new later.came later.dropped

-- the books after these marks
abbrev pub after_marks : PulledGaugeParams → Books (MetricKey × Atom) → List (Mark (MetricKey × Atom))
    → Books (MetricKey × Atom)
after_marks params books marks = books_from (drops (gauge_kind params.spec.samples) params.bound) books marks

-- What a moment brings to books of no drops and no missing snapshot.
pub record HasBrought (samples : ℕ) (table : Table MetricKey (List Atom)) (brought : Brought)
    (later : Books (MetricKey × Atom)) : Type 0 where
  pub sampled_are : AreSampled samples table later.came 0
  pub lost : brought.lost ≡ count_in_u64 later.dropped
  pub missed : brought.missed ≡ count_in_u64 later.missing

-- a moment with this snapshot comes: whatever came before in the part, the new table has the samples with it
pub record Brings (samples : ℕ) (old new : Table MetricKey (List Atom)) (found : Option (List KeyedAtom))
    (brought : Brought) : Type 0 where
  pub bound : new.bound ≡ old.bound
  pub brings : (books : Books (MetricKey × Atom)) → AreSampled samples old books.came 0 → books.dropped ≡ 0
      → books.missing ≡ 0
      → HasBrought samples new brought
      (books_from (drops (gauge_kind samples) old.bound) books (moment_marks found))

-- these marks bring so much to a part in which nothing came
pub record AreBrought (params : PulledGaugeParams) (marks : List (Mark (MetricKey × Atom))) (brought : Brought)
    : Type 0 where
  pub lost : brought.lost
      ≡ count_in_u64 (books_of (drops (gauge_kind params.spec.samples) params.bound) 0 marks).dropped
  pub missed : brought.missed
      ≡ count_in_u64 (books_of (drops (gauge_kind params.spec.samples) params.bound) 0 marks).missing

-- whatever books the old one holds, the new one holds them after these marks; what was told last stays
pub record TakesSampleMarks (old new : PulledGauge) (marks : List (Mark (MetricKey × Atom))) : Type 0 where
  pub told : new.told ≡ old.told
  pub snapshot : new.snapshot ≡ old.snapshot
  pub mode : new.mode ≡ old.mode
  pub holds : (params : PulledGaugeParams) (books : Books (MetricKey × Atom)) → HoldsSampled old params books
      → HoldsSampled new params (after_marks params books marks)

-- so do a moment's marks, which bring so much to a part in which nothing came
pub record GetsBrought (old new : PulledGauge) (marks : List (Mark (MetricKey × Atom))) (brought : Brought)
    : Type 0 where
  pub takes : TakesSampleMarks old new marks
  pub brought_are : (params : PulledGaugeParams) (books : Books (MetricKey × Atom)) → HoldsSampled old params books
      → books.came ≡ [] → AreBrought params marks brought

-- samples are taken now
abbrev pub TakesMoment : PulledGauge → PulledGauge → Brought → Type 0
TakesMoment old new brought = GetsBrought old new (moment_marks old.snapshot) brought

-- a part begins, in which nothing came
abbrev pub BeginsPart : PulledGauge → PulledGauge → Brought → Type 0
BeginsPart old new brought = GetsBrought old new (marks_if (is_start_moment old.mode old.told) old.snapshot) brought

-- so much was counted, so many times
abbrev pub with_counts : PulledGauge → Brought → ℕ → PulledGauge
with_counts it brought times = record it {
  dropped = count_in_u64 (it.dropped + count_in_u64 (brought.lost * times));
  missing = count_in_u64 (it.missing + count_in_u64 (brought.missed * times));
}

-- the rows of so many full buckets, from a time on, each with these samples
abbrev pub rows_again : List (MetricKey × List Atom) → ℕ → ℕ → ℕ → List (Row (List Atom))
rows_again rows start size zero = []
rows_again rows start size (suc n) =
    map (sample_row start (start + size)) rows ++ rows_again rows (start + size) size n

-- the rows of the full buckets of a crossing are kept or counted, where each key has a sample
abbrev pub KeepsAgain : Keeping (Row (List Atom)) → Keeping (Row (List Atom)) → List (MetricKey × List Atom)
    → Crossings → Type 0
KeepsAgain old new rows crossings = last_end crossings < 2 ^ 63 → HaveSamples rows
    → AddsRows samples_weight old new (rows_again rows crossings.first_end crossings.size crossings.full_buckets)

-- full buckets go by, each with the samples of the open part, which stay
pub record RepeatsPart (old new : PulledGauge) (crossings : Crossings) (brought : Brought) : Type 0 where
  pub rest : new
      ≡ record (with_counts old brought crossings.full_buckets) { start = new.start; kept = new.kept }
  pub start : last_end crossings < 2 ^ 63 → new.start ≡ last_end crossings
  pub kept : KeepsAgain old.kept new.kept old.table.rows crossings
