-- A pushed gauge holds its books through every call.
use Rattle.std.proofs.Common.{◌≡◌, ℕ, zero, suc, ◌+◌, ◌*◌, ◌^◌, ◌<◌, ◌≤◌, List, [], ◌∷◌, ◌++◌, map, take, length, refl, sym, ap, subst, ◌∙◌, arith, append_assoc, append-nil}
use Rattle.std.specs.List.{flat_map}
use Rattle.std.proofs.lemmas.List.{map-append}
use Rattle.std.proofs.Math.Seq.{take-nil}
use Rattle.atom_record.specs.declared.atom.Atom.{Atom}
use Rattle.atom_record.specs.declared.value.MetricKey.{MetricKey}
use Rattle.bucket_clock.specs.declared.crossings.Crossings.{Crossings}
use Rattle.bucket_clock.specs.Clock.{last_end}
use Rattle.bucket_meaning.specs.Ends.{ends_from}
use Rattle.bucket_meaning.specs.Marks.{Mark, Ends, Part, Books, after, no_edges, boundary_marks, books_from}
use Rattle.bucket_meaning.specs.Guard.{admitted, arrival_key}
use Rattle.bucket_meaning.specs.Rows.{drops, row_of, rows_of, closed_rows}
use Rattle.dim_table.specs.Table.{Table}
use Rattle.kept_rows.specs.KeptRows.{Keeping, IsKept, AddsRows}
use Rattle.metric_producer.specs.declared.row.Row.{Row}
use Rattle.metric_producer.specs.Calls.{Got, Learned, Crossed, CutAt, Took}
use Rattle.metric_producer.specs.Moves.{Moves}
use Rattle.metric_producer.proofs.RuleLemmas.{answer_fits}
use Rattle.metric_producer.proofs.CollectingLemmas.{moves}
use Rattle.metric_kinds.specs.Keys.{is_same_key}
use Rattle.metric_kinds.specs.Gauges.{samples_weight, gauge_kind}
use Rattle.gauge_metric.specs.declared.gauge.KeyedAtom.{KeyedAtom}
use Rattle.gauge_metric.specs.declared.gauge.PushedGauge.{PushedGauge}
use Rattle.gauge_metric.specs.Sampling.{GaugeParams, gauge_demands, gauge_collecting}
use Rattle.gauge_metric.specs.GaugeStands.{key_samples, sampled, sample_row, HaveSamples, AreSampled, TakesSample, HasGauge, gauge_law, ClosesGauge}
use Rattle.gauge_metric.proofs.ClosedRowsLemmas.{closed_rows-push}
use Rattle.gauge_metric.proofs.SampledLemmas.{have_samples, have_front}

-- the rows of a part are those of its samples
rows_by_samples : (samples bound start end : ℕ) (came : List (MetricKey × Atom)) (ks : List MetricKey)
    → flat_map (row_of (gauge_kind samples) bound (record { start = start; end = end; came = came })) ks
    ≡ map (sample_row start end) (map (λ key. (key, key_samples samples came key)) ks)
rows_by_samples samples bound start end came [] = refl
rows_by_samples samples bound start end came (key ∷ ks) =
    ap (λ rows. sample_row start end (key, key_samples samples came key) ∷ rows)
    (rows_by_samples samples bound start end came ks)

-- so are those of a part, by what came in it
pub rows_of_part : (samples bound start end : ℕ) (came : List (MetricKey × Atom))
    → map (sample_row start end) (sampled samples bound came)
    ≡ rows_of (gauge_kind samples) bound (record { start = start; end = end; came = came })
rows_of_part samples bound start end came =
    let part : Part (MetricKey × Atom) = record { start = start; end = end; came = came } in
    let ks = admitted is_same_key bound (map arrival_key came) in
    sym (rows_by_samples samples bound start end came ks)
    ∙ sym (append-nil (flat_map (row_of (gauge_kind samples) bound part) ks))

-- an empty table has the samples of an empty part
pub sampled_empty : (samples bound : ℕ) → sampled samples bound [] ≡ []
sampled_empty samples bound = ap (map (λ key. (key, key_samples samples [] key))) (take-nil bound)

-- the open part is closed: its rows are kept or counted, and an empty part begins
pub closes_gauge : (old new : PushedGauge) (end : ℕ) → new.start ≡ end → new.samples ≡ old.samples
    → new.table ≡ record old.table { rows = [] }
    → (HaveSamples old.table.rows
    → AddsRows samples_weight old.kept new.kept (map (sample_row old.start end) old.table.rows))
    → ClosesGauge old new end
closes_gauge old new end start samples table adds params books has =
    let bound = params.bound in
    let kind = gauge_kind params.samples in
    let part : Part (MetricKey × Atom) = record { start = books.start; end = end; came = books.came } in
    let rows_are : old.table.rows ≡ sampled params.samples bound books.came =
    has.table.rows ∙ ap (λ n. sampled params.samples n books.came) has.bound in
    let have : HaveSamples old.table.rows =
    subst HaveSamples (sym rows_are) (have_samples params.samples bound books.came has.some) in
    let rows : map (sample_row old.start end) old.table.rows ≡ rows_of kind bound part =
    ap (λ s. map (sample_row s end) old.table.rows) has.start
    ∙ ap (map (sample_row books.start end)) rows_are
    ∙ rows_of_part params.samples bound books.start end books.came in
    record {
      bound = ap (λ (t : Table MetricKey (List Atom)). t.bound) table ∙ has.bound;
      samples = samples ∙ has.samples;
      some = has.some;
      start = start;
      table = record {
        rows = ap (λ (t : Table MetricKey (List Atom)). t.rows) table
            ∙ sym (sampled_empty params.samples new.table.bound);
        dropped_are = ap (λ (t : Table MetricKey (List Atom)). t.dropped) table ∙ has.table.dropped_are;
      };
      kept = subst (λ all. IsKept samples_weight all new.kept) (sym (closed_rows-push kind bound books.closed part))
          (subst (λ more. IsKept samples_weight (closed_rows kind bound books ++ more) new.kept) rows
          (adds have (closed_rows kind bound books) has.kept));
      missing = has.missing;
    }

-- one mark more
abbrev marked : GaugeParams → Books (MetricKey × Atom) → Mark (MetricKey × Atom) → Books (MetricKey × Atom)
marked params books mark = after (drops (gauge_kind params.samples) params.bound) books mark

-- a sample came
pub sample_came : (old new : PushedGauge) (at : ℕ) (event : KeyedAtom) → new.start ≡ old.start
    → new.samples ≡ old.samples → new.kept ≡ old.kept
    → TakesSample old.samples old.table new.table event → Moves gauge_law old new (Got at event)
sample_came old new at event start samples kept takes =
    moves gauge_collecting HasGauge old new (Got at event) (λ params calls books has may.
    let same : old.table.bound ≡ params.bound = has.bound in
    let taken : TakesSample params.samples old.table new.table event =
    subst (λ n. TakesSample n old.table new.table event) has.samples takes in
    record {
      bound = taken.bound ∙ same;
      samples = samples ∙ has.samples;
      some = has.some;
      start = start ∙ has.start;
      table = subst (λ n. AreSampled params.samples new.table (books.came ++ (event.key, event.atom) ∷ [])
          (books.dropped + drops (gauge_kind params.samples) n books.came (event.key, event.atom))) same
          (taken.sampled_are books.came books.dropped has.table);
      kept = subst (IsKept samples_weight (closed_rows (gauge_kind params.samples) params.bound books)) (sym kept)
          has.kept;
      missing = has.missing;
    })

-- a condition changes nothing
pub gauge_learned : (it : PushedGauge) (at : ℕ) (now : Unit {0}) → Moves gauge_law it it (Learned at now)
gauge_learned it at now =
    moves gauge_collecting HasGauge it it (Learned at now) (λ params calls books has may. has)

-- the open part was cut
pub gauge_cut : (old new : PushedGauge) (at : ℕ) → ClosesGauge old new at → Moves gauge_law old new (CutAt at)
gauge_cut old new at closed =
    moves gauge_collecting HasGauge old new (CutAt at) (λ params calls books has may. closed params books has)

-- what is kept was handed out
pub gauge_took : (old new : PushedGauge) → new.start ≡ old.start → new.samples ≡ old.samples
    → new.table ≡ record old.table { dropped = 0 }
    → ((weigh : Row (List Atom) → ℕ) → IsKept weigh [] new.kept)
    → Moves gauge_law old new Took
gauge_took old new start samples table kept = moves gauge_collecting HasGauge old new Took
    (λ params calls books has may. record {
      bound = ap (λ (t : Table MetricKey (List Atom)). t.bound) table ∙ has.bound;
      samples = samples ∙ has.samples;
      some = has.some;
      start = start ∙ has.start;
      table = record {
        rows = ap (λ (t : Table MetricKey (List Atom)). t.rows) table ∙ has.table.rows
            ∙ ap (λ n. sampled params.samples n books.came)
            (sym (ap (λ (t : Table MetricKey (List Atom)). t.bound) table));
        dropped_are = ap (λ (t : Table MetricKey (List Atom)). t.dropped) table;
      };
      kept = kept samples_weight;
      missing = refl;
    })

-- a part in which nothing came has no row
no_rows : (samples bound start end : ℕ)
    → rows_of (gauge_kind samples) bound (record { start = start; end = end; came = [] }) ≡ []
no_rows samples bound start end =
    append-nil (flat_map (row_of (gauge_kind samples) bound (record { start = start; end = end; came = [] }))
    (take bound []))
    ∙ ap (flat_map (row_of (gauge_kind samples) bound (record { start = start; end = end; came = [] })))
    (take-nil bound)

-- an empty part is closed
closes_empty : (it : PushedGauge) (params : GaugeParams) (books : Books (MetricKey × Atom)) (end : ℕ)
    → HasGauge it params books → books.came ≡ []
    → HasGauge (record it { start = end }) params (marked params books (Ends end))
closes_empty it params books end has none =
    let kind = gauge_kind params.samples in
    record {
      bound = has.bound;
      samples = has.samples;
      some = has.some;
      start = refl;
      table = subst (λ came. AreSampled params.samples it.table came books.dropped) none has.table;
      kept = subst (λ all. IsKept samples_weight all it.kept)
          (sym (closed_rows-push kind params.bound books.closed
          (record { start = books.start; end = end; came = books.came })
          ∙ ap (λ came. closed_rows kind params.bound books
          ++ rows_of kind params.bound (record { start = books.start; end = end; came = came })) none
          ∙ ap (λ rows. closed_rows kind params.bound books ++ rows)
          (no_rows params.samples params.bound books.start end)
          ∙ append-nil (closed_rows kind params.bound books))) has.kept;
      missing = has.missing;
    }

-- so many full buckets without samples are closed: only the start moves
closes_many : (n : ℕ) (it : PushedGauge) (params : GaugeParams) (books : Books (MetricKey × Atom)) (size : ℕ)
    → HasGauge it params books → books.came ≡ []
    → HasGauge (record it { start = it.start + n * size }) params
    (books_from (drops (gauge_kind params.samples) params.bound) books
    (boundary_marks no_edges (ends_from (it.start + size) size n)))
closes_many zero it params books size has none =
    subst (λ s. HasGauge (record it { start = s }) params books) (omega arith) has
closes_many (suc n) it params books size has none =
    let next = closes_empty it params books (it.start + size) has none in
    subst (λ s. HasGauge (record it { start = s }) params
    (books_from (drops (gauge_kind params.samples) params.bound) (marked params books (Ends (it.start + size)))
    (boundary_marks no_edges (ends_from (it.start + size + size) size n)))) (omega arith)
    (closes_many n (record it { start = it.start + size }) params (marked params books (Ends (it.start + size))) size
    next refl)

-- ends of buckets were crossed
pub gauge_crossed : (old mid : PushedGauge) (crossings : Crossings) (start : ℕ)
    → ClosesGauge old mid crossings.first_end
    → (last_end crossings < 2 ^ 63 → start ≡ last_end crossings)
    → Moves gauge_law old (record mid { start = start }) (Crossed crossings)
gauge_crossed old mid crossings start closed is_last =
    moves gauge_collecting HasGauge old (record mid { start = start }) (Crossed crossings)
    (λ params calls books has may.
    let first = crossings.first_end in
    let has_first = closed params books has in
    let last : start ≡ last_end crossings = is_last (answer_fits (gauge_demands params) _ crossings may.0) in
    let many = closes_many crossings.full_buckets mid params (marked params books (Ends first)) crossings.size has_first
    refl in
    subst (λ s. HasGauge (record mid { start = s }) params
    (books_from (drops (gauge_kind params.samples) params.bound) (marked params books (Ends first))
    (boundary_marks no_edges (ends_from (first + crossings.size) crossings.size crossings.full_buckets)))) (sym last)
    (subst (λ s. HasGauge (record mid { start = s + crossings.full_buckets * crossings.size }) params
    (books_from (drops (gauge_kind params.samples) params.bound) (marked params books (Ends first))
    (boundary_marks no_edges (ends_from (s + crossings.size) crossings.size crossings.full_buckets)))) has_first.start
    many))

-- one more row was added of those that were to come
pub keeps_next : (start end : ℕ) (old mid new : Keeping (Row (List Atom)))
    (all done rest later : List (MetricKey × List Atom)) (entry : MetricKey × List Atom)
    → all ≡ done ++ rest
    → (HaveSamples done → AddsRows samples_weight old mid (map (sample_row start end) done)) → rest ≡ entry ∷ later
    → (1 ≤ length entry.1 → AddsRows samples_weight mid new (sample_row start end entry ∷ []))
    → (so_far : List (MetricKey × List Atom)) × (all ≡ so_far ++ later)
    × (HaveSamples so_far → AddsRows samples_weight old new (map (sample_row start end) so_far))
keeps_next start end old mid new all done rest later entry split adds first one = (
  done ++ entry ∷ [],
  split ∙ ap (λ l. done ++ l) first ∙ sym (append_assoc done (entry ∷ []) later),
  λ have every is.
      let parts = have_front done entry have in
      subst (λ rows. IsKept samples_weight rows new)
      (append_assoc every (map (sample_row start end) done) (sample_row start end entry ∷ [])
      ∙ ap (λ rows. every ++ rows) (sym (map-append (sample_row start end) done (entry ∷ []))))
      (one parts.1 (every ++ map (sample_row start end) done) (adds parts.0 every is)),
)
