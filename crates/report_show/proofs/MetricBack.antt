-- A metric is read back from its bytes.
use Rattle.std.proofs.Common.{◌≡◌, ℕ, ◌^◌, ◌<◌, false, List, [], ◌∷◌, ◌++◌, map, refl, sym, ap, ◌∙◌, subst, arith}
use Rattle.std.specs.Prelude.{◌==◌}
use Rattle.std.specs.List.{AllByRecursion}
use Rattle.std.proofs.lemmas.List.Elements.{recursion_from_All}
use Rattle.proto_wire.specs.Grammar.{Written, AsVarint, spelling}
use Rattle.report_writer.specs.ReportNumbers as field
use Rattle.report_writer.specs.ReportSpelling.{row_message, gauge_message, event_message, metric_message}
use Rattle.report_writer.specs.declared.tree.MetricBody.{MetricBody}
use Rattle.report_writer.specs.declared.tree.MetricBody.TheVariants.{Events, Counts, Durations, Values, Gauges}
use Rattle.report_writer.specs.declared.tree.MetricTree.{MetricTree}
use Rattle.report_show.specs.WellFormed as well
use Rattle.report_show.specs.Reading.{Content, held_bytes, number_under, payloads_under, read_row, read_gauge, read_event, wrapped_rows, body_said, metric_said, read_metric}
use Rattle.report_show.proofs.FieldLemmas.{told, IsTold, said, repeated, if_above, repeated-told, repeated-fit, bytes-fit}
use Rattle.report_show.proofs.Spelled.{spelled, spelled-one, spelled-repeated, AsSigned, wrapper, rows_written, size_written, metric_written, metric-spelled}
use Rattle.report_show.proofs.NumberLemmas.{low64-same, signed-small, signed64-same}
use Rattle.report_show.proofs.ToldLemmas.{Counted, all_back, varint-told, signed-told, bytes-told, says, if-told, told-append, number-if_same, number-if_other, number-last_same, number-last_other, found-last, first-counts, second-counts, both-hold}
use Rattle.report_show.proofs.RowsBack.{row_back, GoodGauge, gauge_back, GoodEvent, event_back}

-- the rows of a metric
module _ {X : Type 0} (P : X → Type 0) (read : List ℕ → X) (message : X → List ℕ)
    (one : (x : X) → P x → Counted (message x) → read (message x) ≡ x) where
  pub wrapped_back : (rows : List X) → AllByRecursion P rows → Counted (wrapper message rows)
      → wrapped_rows read (wrapper message rows) ≡ rows
  wrapped_back rows all counted =
      let is_spelled = sym (spelled-repeated field.wrapper_data message rows) in
      let long : Counted (spelled (repeated field.wrapper_data message rows)) = subst Counted is_spelled counted in
      let is = says (wrapper message rows) (repeated field.wrapper_data message rows) is_spelled
      (repeated-told field.wrapper_data message rows (omega arith) (omega arith)) counted in
      ap (λ (fields : List Content). map read (payloads_under field.wrapper_data fields)) is
      ∙ ap (map read) (found-last field.wrapper_data message rows)
      ∙ all_back P read message one rows all (repeated-fit field.wrapper_data message rows long)

-- the number and the bytes of the rows' field
abbrev pub body_read : MetricBody → MetricBody
body_read body = body_said (told (rows_written body)).0 (held_bytes (told (rows_written body)).1)

pub body_back : (body : MetricBody) → well.FitsBody body → well.IsShapedBody body
    → Counted (spelling (rows_written body))
    → body_read body ≡ body
body_back (Events rows) fits shaped counted =
    ap Events (wrapped_back GoodEvent read_event event_message event_back rows
    (both-hold well.FitsEvent well.IsShapedEvent rows (recursion_from_All well.FitsEvent rows fits)
    (recursion_from_All well.IsShapedEvent rows shaped))
    (bytes-fit field.shown_events (wrapper event_message rows) counted))
body_back (Counts rows) fits shaped counted =
    ap Counts (wrapped_back well.FitsRow read_row row_message row_back rows
    (recursion_from_All well.FitsRow rows fits)
    (bytes-fit field.shown_counts (wrapper row_message rows) counted))
body_back (Durations rows) fits shaped counted =
    ap Durations (wrapped_back well.FitsRow read_row row_message row_back rows
    (recursion_from_All well.FitsRow rows fits)
    (bytes-fit field.shown_durations (wrapper row_message rows) counted))
body_back (Values rows) fits shaped counted =
    ap Values (wrapped_back well.FitsRow read_row row_message row_back rows
    (recursion_from_All well.FitsRow rows fits)
    (bytes-fit field.shown_values (wrapper row_message rows) counted))
body_back (Gauges rows) fits shaped counted =
    ap Gauges (wrapped_back GoodGauge read_gauge gauge_message gauge_back rows
    (both-hold well.FitsGauge well.IsShapedGauge rows (recursion_from_All well.FitsGauge rows fits)
    (recursion_from_All well.IsShapedGauge rows shaped))
    (bytes-fit field.shown_gauges (wrapper gauge_message rows) counted))

pub rows_told : (body : MetricBody) → IsTold (rows_written body)
rows_told (Events rows) = bytes-told field.shown_events (wrapper event_message rows) (omega arith) (omega arith)
rows_told (Counts rows) = bytes-told field.shown_counts (wrapper row_message rows) (omega arith) (omega arith)
rows_told (Durations rows) = bytes-told field.shown_durations (wrapper row_message rows) (omega arith) (omega arith)
rows_told (Values rows) = bytes-told field.shown_values (wrapper row_message rows) (omega arith) (omega arith)
rows_told (Gauges rows) = bytes-told field.shown_gauges (wrapper gauge_message rows) (omega arith) (omega arith)

pub size_told : (body : MetricBody) (size : ℕ) → size < 2 ^ 64 → AllByRecursion IsTold (size_written body size)
size_told (Events rows) size fits = tt
size_told (Counts rows) size fits = (varint-told field.shown_size size (omega arith) (omega arith) fits, tt)
size_told (Durations rows) size fits = (varint-told field.shown_size size (omega arith) (omega arith) fits, tt)
size_told (Values rows) size fits = (varint-told field.shown_size size (omega arith) (omega arith) fits, tt)
size_told (Gauges rows) size fits = (varint-told field.shown_size size (omega arith) (omega arith) fits, tt)

-- metrics
abbrev pub GoodMetric : MetricTree → Type 0
GoodMetric metric = well.FitsMetric metric × well.IsShapedMetric metric

-- what stands before a field of a metric's numbers tells nothing of it
module _ (metric : MetricTree) (other : ℕ) where
  pub past-rows : (body : MetricBody) → (4 == other) ≡ false → (5 == other) ≡ false → (6 == other) ≡ false
      → (7 == other) ≡ false → (8 == other) ≡ false → (after : List Content)
      → number_under other (told (rows_written body) ∷ after) ≡ number_under other after
  past-rows (Events rows) a b c d e after = rw a refl
  past-rows (Counts rows) a b c d e after = rw b refl
  past-rows (Durations rows) a b c d e after = rw c refl
  past-rows (Values rows) a b c d e after = rw d refl
  past-rows (Gauges rows) a b c d e after = rw e refl

  pub past-size : (body : MetricBody) (size : ℕ) → (field.shown_size == other) ≡ false → (after : List Written)
      → number_under other (said (size_written body size ++ after)) ≡ number_under other (said after)
  past-size (Events rows) size apart after = refl
  past-size (Counts rows) size apart after = rw apart refl
  past-size (Durations rows) size apart after = rw apart refl
  past-size (Values rows) size apart after = rw apart refl
  past-size (Gauges rows) size apart after = rw apart refl

pub size-found : (body : MetricBody) (size : ℕ) → size < 2 ^ 64 → well.IsSizeOf body size → (after : List Written)
    → number_under field.shown_size (said after) ≡ 0
    → number_under field.shown_size (said (size_written body size ++ after)) ≡ size
size-found (Events rows) size fits is after none = none ∙ sym is
size-found (Counts rows) size fits is after none = low64-same size fits
size-found (Durations rows) size fits is after none = low64-same size fits
size-found (Values rows) size fits is after none = low64-same size fits
size-found (Gauges rows) size fits is after none = low64-same size fits

pub metric_back : (metric : MetricTree) → GoodMetric metric → Counted (metric_message metric)
    → read_metric (metric_message metric) ≡ metric
unfolding read_metric
metric_back metric good counted =
    let missing_on : List Written = if_above field.shown_missing metric.missing in
    let kept_on : List Written = if_above field.shown_not_kept metric.not_kept ++ missing_on in
    let unshown : List Written = if_above field.shown_dropped metric.dropped ++ kept_on in
    let size_on : List Written = size_written metric.body metric.size ++ unshown in
    let base_on : List Written = AsVarint field.shown_base metric.base ∷ size_on in
    let rows_on : List Written = rows_written metric.body ∷ base_on in
    let long : Counted (spelled (metric_written metric)) = subst Counted (metric-spelled metric) counted in
    let long_rows : Counted (spelled rows_on) =
    second-counts (AsSigned field.shown_id metric.id ∷ []) rows_on long in
    let long_body : Counted (spelling (rows_written metric.body)) =
    subst Counted (spelled-one (rows_written metric.body))
    (first-counts (rows_written metric.body ∷ []) base_on long_rows) in
    let all : AllByRecursion IsTold (metric_written metric) = (
      signed-told field.shown_id metric.id (omega arith) (omega arith) (signed-small metric.id good.0.id),
      (
        rows_told metric.body,
        (
          varint-told field.shown_base metric.base (omega arith) (omega arith) good.0.base,
          told-append (size_written metric.body metric.size) unshown (size_told metric.body metric.size good.0.size)
              (told-append (if_above field.shown_dropped metric.dropped) kept_on
              (if-told field.shown_dropped metric.dropped (omega arith) (omega arith) good.0.dropped)
              (told-append (if_above field.shown_not_kept metric.not_kept) missing_on
              (if-told field.shown_not_kept metric.not_kept (omega arith) (omega arith) good.0.not_kept)
              (if-told field.shown_missing metric.missing (omega arith) (omega arith) good.0.missing))),
        ),
      ),
    ) in
    let is = says (metric_message metric) (metric_written metric) (metric-spelled metric) all counted in
    let id = signed64-same metric.id good.0.id in
    let base : number_under field.shown_base (said (metric_written metric)) ≡ metric.base =
    past-rows metric field.shown_base metric.body refl refl refl refl refl (said base_on)
    ∙ low64-same metric.base good.0.base in
    let size : number_under field.shown_size (said (metric_written metric)) ≡ metric.size =
    past-rows metric field.shown_size metric.body refl refl refl refl refl (said base_on)
    ∙ size-found metric.body metric.size good.0.size good.1.size unshown
    (number-if_other field.shown_dropped field.shown_size metric.dropped kept_on refl
    ∙ number-if_other field.shown_not_kept field.shown_size metric.not_kept missing_on refl
    ∙ number-last_other field.shown_missing field.shown_size metric.missing refl) in
    let dropped : number_under field.shown_dropped (said (metric_written metric)) ≡ metric.dropped =
    past-rows metric field.shown_dropped metric.body refl refl refl refl refl (said base_on)
    ∙ past-size metric field.shown_dropped metric.body metric.size refl unshown
    ∙ number-if_same field.shown_dropped metric.dropped kept_on good.0.dropped
    (number-if_other field.shown_not_kept field.shown_dropped metric.not_kept missing_on refl
    ∙ number-last_other field.shown_missing field.shown_dropped metric.missing refl) in
    let not_kept : number_under field.shown_not_kept (said (metric_written metric)) ≡ metric.not_kept =
    past-rows metric field.shown_not_kept metric.body refl refl refl refl refl (said base_on)
    ∙ past-size metric field.shown_not_kept metric.body metric.size refl unshown
    ∙ number-if_other field.shown_dropped field.shown_not_kept metric.dropped kept_on refl
    ∙ number-if_same field.shown_not_kept metric.not_kept missing_on good.0.not_kept
    (number-last_other field.shown_missing field.shown_not_kept metric.missing refl) in
    let missing : number_under field.shown_missing (said (metric_written metric)) ≡ metric.missing =
    past-rows metric field.shown_missing metric.body refl refl refl refl refl (said base_on)
    ∙ past-size metric field.shown_missing metric.body metric.size refl unshown
    ∙ number-if_other field.shown_dropped field.shown_missing metric.dropped kept_on refl
    ∙ number-if_other field.shown_not_kept field.shown_missing metric.not_kept missing_on refl
    ∙ number-last_same field.shown_missing metric.missing good.0.missing in
    let body = body_back metric.body good.0.body good.1.body long_body in
    ap metric_said is ∙ (λ i. record {
      id = id i;
      base = base i;
      size = size i;
      dropped = dropped i;
      not_kept = not_kept i;
      missing = missing i;
      body = body i;
    })
