-- A pulled gauge holds its books through every moment and boundary.
use Rattle.std.proofs.Common.{◌≡◌, ℕ, ◌+◌, ◌*◌, ◌^◌, ◌<◌, Bool, true, false, List, [], ◌∷◌, ◌++◌, map, Option, Some, None, refl, sym, ap, subst, ◌∙◌, arith}
use Rattle.std.specs.List.{flat_map}
use Rattle.std.proofs.lemmas.Grind.{flat_map-append}
use Rattle.atom_record.specs.declared.atom.Atom.{Atom}
use Rattle.atom_record.specs.declared.value.MetricKey.{MetricKey}
use Rattle.atom_record.specs.Equal.{metric_key_exact}
use Rattle.bucket_clock.specs.declared.crossings.Crossings.{Crossings}
use Rattle.bucket_clock.specs.Clock.{last_end}
use Rattle.bucket_meaning.specs.Ends.{ends_from}
use Rattle.bucket_meaning.specs.Marks.{Mark, Ends, Part, Books, books_from}
use Rattle.bucket_meaning.specs.Kept.{count_in_u64}
use Rattle.bucket_meaning.specs.Rows.{drops, rows_of, closed_rows}
use Rattle.dim_table.specs.Table.{Table}
use Rattle.kept_rows.specs.KeptRows.{Keeping, IsKept, AddsRows}
use Rattle.predicate_state.specs.declared.truth.Truth.{Truth}
use Rattle.metric_producer.specs.declared.row.Row.{Row}
use Rattle.metric_kinds.specs.Gauges.{samples_weight, gauge_kind}
use Rattle.metric_kinds.proofs.ArrivalsLemmas.{dropped_of}
use Rattle.metric_kinds.proofs.JumpLemmas.{books_at, parts_again, BringAgain, opened_again, missed_again, came_again}
use Rattle.gauge_metric.specs.declared.gauge.KeyedAtom.{KeyedAtom}
use Rattle.gauge_metric.specs.declared.pulled.Brought.{Brought}
use Rattle.gauge_metric.specs.declared.pulled.PulledGauge.{PulledGauge}
use Rattle.gauge_metric.specs.GaugeStands.{sampled, sample_row, AreSampled, HaveSamples}
use Rattle.gauge_metric.specs.PulledSampling.{PulledGaugeParams, keyed, moment_marks, marks_if}
use Rattle.gauge_metric.specs.PulledStands.{HoldsSampled, after_marks, HasBrought, Brings, AreBrought, TakesSampleMarks, GetsBrought, TakesMoment, with_counts, rows_again, RepeatsPart}
use Rattle.gauge_metric.proofs.ClosedRowsLemmas.{closed_rows-push}
use Rattle.gauge_metric.proofs.SampledLemmas.{have_samples}
use Rattle.gauge_metric.proofs.GaugeLemmas.{rows_of_part, sampled_empty}
use Rattle.gauge_metric.proofs.MomentLemmas.{moment_apart}
use Rattle.gauge_metric.proofs.RepeatedLemmas.{parts_rows, count_times}

-- a table with its rows
abbrev TheTable : Type 0
TheTable = Table MetricKey (List Atom)

-- what was told last doesn't matter to the books
pub told_anew : (it : PulledGauge) (told : Option Truth) (snapshot : Option (List KeyedAtom))
    (params : PulledGaugeParams)
    (books : Books (MetricKey × Atom)) → HoldsSampled it params books
    → HoldsSampled (record it { told = told; snapshot = snapshot }) params books
told_anew it told snapshot params books has = record {
  bound = has.bound;
  samples = has.samples;
  some = has.some;
  mode = has.mode;
  start = has.start;
  table = has.table;
  kept = has.kept;
  dropped = has.dropped;
  missing = has.missing;
}

-- what a moment brings is counted once
pub counted_once : (was more books_more added : ℕ) → was ≡ count_in_u64 books_more → more ≡ count_in_u64 added
    → count_in_u64 (was + count_in_u64 (more * 1)) ≡ count_in_u64 (books_more + added)
counted_once was more books_more added is more_is = omega (arith, is, more_is)

-- the samples of a moment came: the table has them, and what they bring is counted
pub moment_taken : (old : PulledGauge) (table : TheTable) (brought : Brought)
    → Brings old.samples old.table table old.snapshot brought
    → TakesMoment old (with_counts (record old { table = table }) brought 1) brought
moment_taken old table brought brings = record {
  takes = record {
    told = refl;
    snapshot = refl;
    mode = refl;
    holds = λ params books has.
        let samples = params.spec.samples in
        let bound = params.bound in
        let marks = moment_marks old.snapshot in
        let mine : Brings samples old.table table old.snapshot brought =
        subst (λ n. Brings n old.table table old.snapshot brought) has.samples brings in
        let none : Books (MetricKey × Atom) = books_at books.start books.came books.closed 0 0 in
        let brought_is : HasBrought samples table brought (books_from (drops (gauge_kind samples) bound) none marks) =
        subst (λ n. HasBrought samples table brought (books_from (drops (gauge_kind samples) n) none marks)) has.bound
        (mine.brings none has.table refl refl) in
        let apart = moment_apart samples bound books old.snapshot in
        record {
          bound = mine.bound ∙ has.bound;
          samples = has.samples;
          some = has.some;
          mode = has.mode;
          start = has.start ∙ sym apart.start;
          table = subst (λ came. AreSampled samples table came 0) (sym apart.came) brought_is.sampled_are;
          kept = subst (λ closed. IsKept samples_weight (flat_map (rows_of (gauge_kind samples) bound) closed) old.kept)
              (sym apart.closed) has.kept;
          dropped = counted_once old.dropped brought.lost books.dropped _ has.dropped brought_is.lost
              ∙ ap count_in_u64 (sym apart.dropped);
          missing = counted_once old.missing brought.missed books.missing _ has.missing brought_is.missed
              ∙ ap count_in_u64 (sym apart.missing);
        };
  };
  brought_are = λ params books has none.
      let samples = params.spec.samples in
      let marks = moment_marks old.snapshot in
      let mine : Brings samples old.table table old.snapshot brought =
      subst (λ n. Brings n old.table table old.snapshot brought) has.samples brings in
      let empty : Books (MetricKey × Atom) = books_at 0 [] [] 0 0 in
      let brought_is : HasBrought samples table brought
      (books_from (drops (gauge_kind samples) params.bound) empty marks) =
      subst (λ n. HasBrought samples table brought (books_from (drops (gauge_kind samples) n) empty marks)) has.bound
      (mine.brings empty (subst (λ came. AreSampled samples old.table came 0) none has.table) refl refl) in
      record { lost = brought_is.lost; missed = brought_is.missed };
}

-- where nothing comes, nothing changes
pub nothing_taken : (it : PulledGauge) → GetsBrought it it [] (record { lost = 0; missed = 0 })
nothing_taken it = record {
  takes = record { told = refl; snapshot = refl; mode = refl; holds = λ params books has. has };
  brought_are = λ params books has none. record { lost = refl; missed = refl };
}

-- the open part is closed: its rows are kept or counted, and an empty part begins
pub closes_pulled : (old : PulledGauge) (table : TheTable) (kept : Keeping (Row (List Atom))) (end : ℕ)
    → table ≡ record old.table { rows = [] }
    → (HaveSamples old.table.rows
    → AddsRows samples_weight old.kept kept (map (sample_row old.start end) old.table.rows))
    → TakesSampleMarks old (record old { start = end; table = table; kept = kept }) (Ends end ∷ [])
closes_pulled old table kept end is adds = record {
  told = refl;
  snapshot = refl;
  mode = refl;
  holds = λ params books has.
      let samples = params.spec.samples in
      let bound = params.bound in
      let kind = gauge_kind samples in
      let part : Part (MetricKey × Atom) = record { start = books.start; end = end; came = books.came } in
      let rows_are : old.table.rows ≡ sampled samples bound books.came =
      has.table.rows ∙ ap (λ n. sampled samples n books.came) has.bound in
      let have : HaveSamples old.table.rows =
      subst HaveSamples (sym rows_are) (have_samples samples bound books.came has.some) in
      let rows : map (sample_row old.start end) old.table.rows ≡ rows_of kind bound part =
      ap (λ s. map (sample_row s end) old.table.rows) has.start
      ∙ ap (map (sample_row books.start end)) rows_are
      ∙ rows_of_part samples bound books.start end books.came in
      record {
        bound = ap (λ (t : TheTable). t.bound) is ∙ has.bound;
        samples = has.samples;
        some = has.some;
        mode = has.mode;
        start = refl;
        table = record {
          rows = ap (λ (t : TheTable). t.rows) is ∙ sym (sampled_empty samples table.bound);
          dropped_are = ap (λ (t : TheTable). t.dropped) is ∙ has.table.dropped_are;
        };
        kept = subst (λ all. IsKept samples_weight all kept) (sym (closed_rows-push kind bound books.closed part))
            (subst (λ more. IsKept samples_weight (closed_rows kind bound books ++ more) kept) rows
            (adds have (closed_rows kind bound books) has.kept));
        dropped = has.dropped;
        missing = has.missing;
      };
}

-- what these marks bring to a part in which nothing came is the same in every part
pub record ComesAgain (samples bound : ℕ) (marks : List (Mark (MetricKey × Atom))) : Type 0 where
  pub came : List (MetricKey × Atom)
  pub lost : ℕ
  pub missed : ℕ
  pub bring : BringAgain (drops (gauge_kind samples) bound) marks came lost missed

-- so it is with the marks of a moment
moment_again : (samples bound : ℕ) (found : Option (List KeyedAtom)) → ComesAgain samples bound (moment_marks found)
moment_again samples bound None = record {
  came = [];
  lost = 0;
  missed = 1;
  bring = missed_again (drops (gauge_kind samples) bound);
}
moment_again samples bound (Some events) = record {
  came = keyed events;
  lost = dropped_of (gauge_kind samples) bound (keyed events);
  missed = 0;
  bring = came_again (gauge_kind samples) bound metric_key_exact (λ came. refl) (keyed events);
}

-- and with none
pub opening_again : (samples bound : ℕ) (is_moment : Bool) (found : Option (List KeyedAtom))
    → ComesAgain samples bound (marks_if is_moment found)
opening_again samples bound true found = moment_again samples bound found
opening_again samples bound false found = record {
  came = [];
  lost = 0;
  missed = 0;
  bring = λ start closed dropped missing.
      let no_drop : dropped ≡ dropped + 0 = omega arith in
      let no_missing : missing ≡ missing + 0 = omega arith in
      ap (λ d. books_at start [] closed d missing) no_drop
      ∙ ap (λ m. books_at start [] closed (dropped + 0) m) no_missing;
}

-- full buckets went by that open with the same marks as the open part
pub repeats : (old new : PulledGauge) (crossings : Crossings) (brought : Brought) (params : PulledGaugeParams)
    (marks : List (Mark (MetricKey × Atom))) (closed : List (Part (MetricKey × Atom))) (dropped missing : ℕ)
    → ComesAgain params.spec.samples params.bound marks
    → let opened = after_marks params (books_at crossings.first_end [] closed dropped missing) marks in
    HoldsSampled old params opened → AreBrought params marks brought → RepeatsPart old new crossings brought
    → last_end crossings < 2 ^ 63
    → HoldsSampled new params (after_marks params opened
    (flat_map (λ at. Ends at ∷ marks)
    (ends_from (crossings.first_end + crossings.size) crossings.size crossings.full_buckets)))
repeats old new crossings brought params marks closed dropped missing again has are repeated fits =
    let samples = params.spec.samples in
    let bound = params.bound in
    let kind = gauge_kind samples in
    let drop = drops kind bound in
    let first = crossings.first_end in
    let size = crossings.size in
    let full = crossings.full_buckets in
    let opened : Books (MetricKey × Atom) =
    books_at first again.came closed (dropped + again.lost) (missing + again.missed) in
    let opened_is : after_marks params (books_at first [] closed dropped missing) marks ≡ opened =
    again.bring first closed dropped missing in
    let later = flat_map (λ at. Ends at ∷ marks) (ends_from (first + size) size full) in
    let now : HoldsSampled old params opened = subst (HoldsSampled old params) opened_is has in
    let empty : Books (MetricKey × Atom) =
    books_at 0 again.came [] (0 + again.lost) (0 + again.missed) in
    let from_empty : books_from drop (books_at 0 [] [] 0 0) marks ≡ empty = again.bring 0 [] 0 0 in
    let no_lost : 0 + again.lost ≡ again.lost = omega arith in
    let no_missed : 0 + again.missed ≡ again.missed = omega arith in
    let lost : brought.lost ≡ count_in_u64 again.lost =
    are.lost ∙ ap (λ (b : Books (MetricKey × Atom)). count_in_u64 b.dropped) from_empty ∙ ap count_in_u64 no_lost in
    let missed : brought.missed ≡ count_in_u64 again.missed =
    are.missed ∙ ap (λ (b : Books (MetricKey × Atom)). count_in_u64 b.missing) from_empty
    ∙ ap count_in_u64 no_missed in
    let rows_are : old.table.rows ≡ sampled samples bound again.came =
    now.table.rows ∙ ap (λ n. sampled samples n again.came) now.bound in
    let have : HaveSamples old.table.rows =
    subst HaveSamples (sym rows_are) (have_samples samples bound again.came now.some) in
    let rows : flat_map (rows_of kind bound) (closed ++ parts_again first size again.came full)
    ≡ flat_map (rows_of kind bound) closed ++ rows_again old.table.rows first size full =
    flat_map-append (rows_of kind bound) closed (parts_again first size again.came full)
    ∙ ap (λ more. flat_map (rows_of kind bound) closed ++ more)
    (parts_rows samples bound again.came first size full
    ∙ ap (λ some. rows_again some first size full) (sym rows_are)) in
    let table : new.table ≡ old.table = ap (λ (it : PulledGauge). it.table) repeated.rest in
    subst (HoldsSampled new params)
    (sym (ap (λ b. books_from drop b later) opened_is
    ∙ opened_again drop marks again.came again.lost again.missed size again.bring full first closed
    (dropped + again.lost) (missing + again.missed)))
    (record {
      bound = ap (λ (t : TheTable). t.bound) table ∙ now.bound;
      samples = ap (λ (it : PulledGauge). it.samples) repeated.rest ∙ now.samples;
      some = now.some;
      mode = ap (λ (it : PulledGauge). it.mode) repeated.rest ∙ now.mode;
      start = repeated.start fits;
      table = subst (λ t. AreSampled samples t again.came 0) (sym table) now.table;
      kept = subst (λ all. IsKept samples_weight all new.kept) (sym rows)
          (repeated.kept fits have (flat_map (rows_of kind bound) closed) now.kept);
      dropped = ap (λ (it : PulledGauge). it.dropped) repeated.rest
          ∙ ap (λ n. count_in_u64 (n + count_in_u64 (brought.lost * full))) now.dropped
          ∙ ap (λ n. count_in_u64 (count_in_u64 (dropped + again.lost) + count_in_u64 (n * full))) lost
          ∙ count_times (dropped + again.lost) again.lost full;
      missing = ap (λ (it : PulledGauge). it.missing) repeated.rest
          ∙ ap (λ n. count_in_u64 (n + count_in_u64 (brought.missed * full))) now.missing
          ∙ ap (λ n. count_in_u64 (count_in_u64 (missing + again.missed) + count_in_u64 (n * full))) missed
          ∙ count_times (missing + again.missed) again.missed full;
    })
