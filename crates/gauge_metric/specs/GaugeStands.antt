-- What a pushed gauge stands for.
use Rattle.std.specs.Prelude.{◌≡◌, ℕ, ◌+◌, ◌≤◌, nat_lt, if◌then◌else◌, List, [], ◌∷◌, ◌++◌, map, take, length, slice_get, Some}
use Rattle.std.specs.List.{AllByRecursion}
use Rattle.std.specs.Map.{values_of}
use Rattle.atom_record.specs.declared.atom.Atom.{Atom}
use Rattle.atom_record.specs.declared.value.MetricKey.{MetricKey}
use Rattle.dim_table.specs.Table.{Table, with_value_at}
use Rattle.kept_rows.specs.KeptRows.{Keeping, IsKept, AddsRows}
use Rattle.bucket_meaning.specs.Marks.{Ends, Books}
use Rattle.bucket_meaning.specs.Guard.{admitted, of_key, arrival_key}
use Rattle.bucket_meaning.specs.Kept.{count_in_u64}
use Rattle.bucket_meaning.specs.Rows.{drops, closed_rows}
use Rattle.bucket_meaning.specs.Meaning.{mark_on, books_by}
use Rattle.metric_producer.specs.declared.row.Row.{Row}
use Rattle.metric_producer.specs.Calls.{Got}
use Rattle.metric_producer.specs.Collecting.{calls_mean, Law}
use Rattle.metric_producer.specs.Moves.{Moves}
use Rattle.metric_kinds.specs.Keys.{is_same_key}
use Rattle.metric_kinds.specs.Gauges.{samples_weight, gauge_kind}
use Rattle.gauge_metric.specs.declared.gauge.KeyedAtom.{KeyedAtom}
use Rattle.gauge_metric.specs.declared.gauge.PushedGauge.{PushedGauge}
use Rattle.gauge_metric.specs.Sampling.{GaugeParams, GaugeCall, gauge_collecting}

-- the samples of a key: the first of its atoms, at most so many
abbrev pub key_samples : ℕ → List (MetricKey × Atom) → MetricKey → List Atom
key_samples samples came key = take samples (of_key is_same_key key came)

-- with one more atom, where there are fewer than so many
abbrev pub with_sample : ℕ → List Atom → Atom → List Atom
with_sample samples atoms atom = if nat_lt (length atoms) samples then atoms ++ atom ∷ [] else atoms

-- the admitted keys of what came, with their samples
abbrev pub sampled : ℕ → ℕ → List (MetricKey × Atom) → List (MetricKey × List Atom)
sampled samples bound came =
    map (λ key. (key, key_samples samples came key)) (admitted is_same_key bound (map arrival_key came))

-- the table has the samples of what came in the open part; its count is of so many drops since the last report
pub record AreSampled (samples : ℕ) (table : Table MetricKey (List Atom)) (came : List (MetricKey × Atom))
    (dropped : ℕ) : Type 0 where
  pub rows : table.rows ≡ sampled samples table.bound came
  pub dropped_are : table.dropped ≡ count_in_u64 dropped

-- one more sample comes: whatever came before, the new table has the samples with it
pub record TakesSample (samples : ℕ) (old new : Table MetricKey (List Atom)) (event : KeyedAtom) : Type 0 where
  pub bound : new.bound ≡ old.bound
  pub sampled_are : (came : List (MetricKey × Atom)) (dropped : ℕ) → AreSampled samples old came dropped
      → AreSampled samples new (came ++ (event.key, event.atom) ∷ [])
      (dropped + drops (gauge_kind samples) old.bound came (event.key, event.atom))

-- each of these keys has a sample
abbrev pub HaveSamples : List (MetricKey × List Atom) → Type 0
HaveSamples rows = AllByRecursion (λ (row : MetricKey × List Atom). 1 ≤ length row.1) rows

-- a key's row of a part, by its samples
abbrev pub sample_row : ℕ → ℕ → MetricKey × List Atom → Row (List Atom)
sample_row start end entry = record { key = entry.0; start = start; end = end; value = entry.1 }

-- the row at a place has one more sample
abbrev pub SamplesAt : ℕ → ℕ → Atom → Table MetricKey (List Atom) → Table MetricKey (List Atom) → Type 0
SamplesAt samples place atom old new =
    (was : List Atom) → slice_get (values_of old.rows) place ≡ Some was
    → new ≡ with_value_at old place (with_sample samples was atom)

-- the row at a place takes no more samples
abbrev pub IsFullAt : ℕ → Table MetricKey (List Atom) → ℕ → Type 0
IsFullAt samples table place =
    (was : List Atom) → slice_get (values_of table.rows) place ≡ Some was → samples ≤ length was

-- rows of a part with these samples were added, where each of them has a sample
abbrev pub AddsSampled : ℕ → ℕ → List (MetricKey × List Atom) → Keeping (Row (List Atom)) → Keeping (Row (List Atom))
    → Type 0
AddsSampled start end sampled old new =
    HaveSamples sampled → AddsRows samples_weight old new (map (sample_row start end) sampled)

-- the gauge holds these books
pub record HasGauge (it : PushedGauge) (params : GaugeParams) (books : Books (MetricKey × Atom)) : Type 0 where
  pub bound : it.table.bound ≡ params.bound
  pub samples : it.samples ≡ params.samples
  pub some : 1 ≤ params.samples
  pub start : it.start ≡ books.start
  pub table : AreSampled params.samples it.table books.came books.dropped
  pub kept : IsKept samples_weight (closed_rows (gauge_kind params.samples) params.bound books) it.kept
  pub missing : books.missing ≡ 0

-- the gauge was made with these, and has got these calls
abbrev pub GaugeStandsFor : PushedGauge → GaugeParams → List GaugeCall → Type 0
GaugeStandsFor it params calls = HasGauge it params (books_by (calls_mean gauge_collecting) params calls)

-- the law of pushed gauges
abbrev pub gauge_law
    : Law PushedGauge GaugeParams KeyedAtom (Unit {0}) (MetricKey × Atom) MetricKey Atom (Row (List Atom))
gauge_law = record { stands = GaugeStandsFor; collecting = gauge_collecting }

-- whatever the gauge stood for, it stands for that and an atom that comes with this key, as it is
abbrev pub LetsKeyGo : PushedGauge → MetricKey → Type 0
LetsKeyGo gauge key = (at : ℕ) (atom : Atom) → Moves gauge_law gauge gauge (Got at (record { key = key; atom = atom }))

-- whatever books the old one holds, the new one holds them after one more part is closed
abbrev pub ClosesGauge : PushedGauge → PushedGauge → ℕ → Type 0
ClosesGauge old new end =
    (params : GaugeParams) (books : Books (MetricKey × Atom)) → HasGauge old params books
    → HasGauge new params (mark_on (calls_mean gauge_collecting) params books (Ends end))
