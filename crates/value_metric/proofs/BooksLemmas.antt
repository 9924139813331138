-- The books of a metric of values through each mark.
use Rattle.std.proofs.Common.{◌≡◌, ℕ, ℤ, ◌+◌, Bool, List, [], ◌∷◌, ◌++◌, map, take, Option, refl, sym, ap, subst, ◌∙◌, arith, append_assoc, append-nil}
use Rattle.std.specs.List.{flat_map}
use Rattle.std.proofs.lemmas.Grind.{flat_map-append}
use Rattle.std.proofs.Math.Seq.{take-nil}
use Rattle.atom_record.specs.declared.value.MetricKey.{MetricKey}
use Rattle.bucket_meaning.specs.Kept.{count_in_u64}
use Rattle.bucket_meaning.specs.Marks.{Ends, Came, Missed, Asked, Part}
use Rattle.bucket_meaning.specs.Guard.{admitted, arrival_key}
use Rattle.bucket_meaning.specs.Rows.{drops, row_of, rows_of, closed_rows}
use Rattle.config_types.specs.declared.metric.Aggregation.{Aggregation}
use Rattle.dim_table.specs.Table.{Table}
use Rattle.kept_rows.specs.KeptRows.{Keeping, IsKept, AddsRows}
use Rattle.metric_kinds.specs.Keys.{is_same_key}
use Rattle.metric_producer.specs.declared.row.Row.{Row}
use Rattle.value_metric.specs.declared.value_books.ValueBooks.{ValueBooks}
use Rattle.value_metric.specs.Totals.{total_of, totals, total_rows, row_weighs, HasTotals, TakesInteger}
use Rattle.value_metric.specs.ValueBooksStand.{ValueForm, form_kind, HoldsBooks, TakesMark}

-- the rows of a part are those of its totals
pub rows_by_totals : (form : ValueForm) (part : Part (MetricKey × ℤ)) (ks : List MetricKey)
    → flat_map (row_of (form_kind form) form.bound part) ks
    ≡ flat_map (total_rows form.hides_zeros part.start part.end) (map (total_of form.aggregation part.came) ks)
rows_by_totals form part [] = refl
rows_by_totals form part (key ∷ ks) =
    ap (λ rows. total_rows form.hides_zeros part.start part.end (total_of form.aggregation part.came key) ++ rows)
    (rows_by_totals form part ks)

-- the rows of all closed parts, with one part more
pub closed_rows-push : (form : ValueForm) (closed : List (Part (MetricKey × ℤ))) (part : Part (MetricKey × ℤ))
    → flat_map (rows_of (form_kind form) form.bound) (closed ++ part ∷ [])
    ≡ flat_map (rows_of (form_kind form) form.bound) closed ++ rows_of (form_kind form) form.bound part
closed_rows-push form closed part =
    flat_map-append (rows_of (form_kind form) form.bound) closed (part ∷ [])
    ∙ ap (λ rows. flat_map (rows_of (form_kind form) form.bound) closed ++ rows)
    (append-nil (rows_of (form_kind form) form.bound part))

-- nothing has come, so there are no totals
pub totals_none : (aggregation : Aggregation) (bound : ℕ) → totals aggregation bound [] ≡ []
totals_none aggregation bound = ap (map (total_of aggregation [])) (take-nil bound)

-- a part in which nothing came has no row
pub no_rows : (form : ValueForm) (start end : ℕ)
    → rows_of (form_kind form) form.bound (record { start = start; end = end; came = [] }) ≡ []
no_rows form start end =
    append-nil (flat_map (row_of (form_kind form) form.bound (record { start = start; end = end; came = [] }))
    (take form.bound []))
    ∙ ap (flat_map (row_of (form_kind form) form.bound (record { start = start; end = end; came = [] })))
    (take-nil form.bound)

-- an empty object holds books whose time has just begun
pub opens : (it : ValueBooks) (form : ValueForm) (start : ℕ)
    → it.table ≡ record { rows = []; bound = form.bound; dropped = 0 }
    → it.aggregation ≡ form.aggregation → it.hides_zeros ≡ form.hides_zeros → it.start ≡ start
    → IsKept row_weighs [] it.kept → it.missing ≡ 0
    → HoldsBooks it form (record { start = start; came = []; closed = []; dropped = 0; missing = 0 })
opens it form start table aggregation hides_zeros starts kept missing = record {
  bound = ap (λ (t : Table MetricKey (Option ℤ)). t.bound) table;
  aggregation = aggregation;
  hides_zeros = hides_zeros;
  start = starts;
  table = record {
    rows = ap (λ (t : Table MetricKey (Option ℤ)). t.rows) table ∙ sym (totals_none form.aggregation it.table.bound);
    dropped_are = ap (λ (t : Table MetricKey (Option ℤ)). t.dropped) table;
  };
  kept = kept;
  missing = missing;
}

-- an integer came
pub comes : (old : ValueBooks) (table : Table MetricKey (Option ℤ)) (key : MetricKey) (integer : ℤ)
    → TakesInteger old.aggregation old.table table key integer
    → TakesMark old (record old { table = table }) (Came (key, integer))
comes old table key integer takes form books has =
    let own : TakesInteger form.aggregation old.table table key integer =
    subst (λ aggregation. TakesInteger aggregation old.table table key integer) has.aggregation takes in
    record {
      bound = own.bound ∙ has.bound;
      aggregation = has.aggregation;
      hides_zeros = has.hides_zeros;
      start = has.start;
      table = subst (λ n. HasTotals form.aggregation table (books.came ++ (key, integer) ∷ [])
          (books.dropped + drops (form_kind form) n books.came (key, integer))) has.bound
          (own.totals_are form.hides_zeros books.came books.dropped has.table);
      kept = has.kept;
      missing = has.missing;
    }

-- a snapshot was missed
pub misses : (old : ValueBooks) (missing : ℕ) → missing ≡ count_in_u64 (old.missing + 1)
    → TakesMark old (record old { missing = missing }) Missed
misses old missing rises form books has = record {
  bound = has.bound;
  aggregation = has.aggregation;
  hides_zeros = has.hides_zeros;
  start = has.start;
  table = has.table;
  kept = has.kept;
  missing = rises ∙ omega (arith, has.missing);
}

-- the open part is closed: its rows are kept or counted, and an empty part begins
pub closes : (old new : ValueBooks) (end : ℕ) → new.start ≡ end → new.aggregation ≡ old.aggregation
    → new.hides_zeros ≡ old.hides_zeros → new.table ≡ record old.table { rows = [] }
    → AddsRows row_weighs old.kept new.kept
    (flat_map (total_rows old.hides_zeros old.start end) old.table.rows)
    → new.missing ≡ old.missing → TakesMark old new (Ends end)
closes old new end start aggregation hides_zeros table adds missing form books has =
    let bound = form.bound in
    let part : Part (MetricKey × ℤ) = record { start = books.start; end = end; came = books.came } in
    let rows : flat_map (total_rows old.hides_zeros old.start end) old.table.rows
    ≡ rows_of (form_kind form) bound part =
    ap (λ hides. flat_map (total_rows hides old.start end) old.table.rows) has.hides_zeros
    ∙ ap (λ s. flat_map (total_rows form.hides_zeros s end) old.table.rows) has.start
    ∙ ap (flat_map (total_rows form.hides_zeros books.start end))
    (has.table.rows ∙ ap (λ n. totals form.aggregation n books.came) has.bound)
    ∙ sym (rows_by_totals form part (admitted is_same_key bound (map arrival_key books.came)))
    ∙ sym (append-nil (flat_map (row_of (form_kind form) bound part)
    (admitted is_same_key bound (map arrival_key books.came)))) in
    record {
      bound = ap (λ (t : Table MetricKey (Option ℤ)). t.bound) table ∙ has.bound;
      aggregation = aggregation ∙ has.aggregation;
      hides_zeros = hides_zeros ∙ has.hides_zeros;
      start = start;
      table = record {
        rows = ap (λ (t : Table MetricKey (Option ℤ)). t.rows) table
            ∙ sym (totals_none form.aggregation new.table.bound);
        dropped_are = ap (λ (t : Table MetricKey (Option ℤ)). t.dropped) table ∙ has.table.dropped_are;
      };
      kept = subst (λ all. IsKept row_weighs all new.kept) (sym (closed_rows-push form books.closed part))
          (subst (λ more. IsKept row_weighs (closed_rows (form_kind form) bound books ++ more) new.kept) rows
          (adds (closed_rows (form_kind form) bound books) has.kept));
      missing = missing ∙ has.missing;
    }

-- what was kept is handed out
pub hands_out : (old new : ValueBooks) → new.start ≡ old.start → new.aggregation ≡ old.aggregation
    → new.hides_zeros ≡ old.hides_zeros → new.table ≡ record old.table { dropped = 0 }
    → ((weigh : Row ℤ → ℕ) → IsKept weigh [] new.kept) → new.missing ≡ 0
    → TakesMark old new Asked
hands_out old new start aggregation hides_zeros table kept missing form books has = record {
  bound = ap (λ (t : Table MetricKey (Option ℤ)). t.bound) table ∙ has.bound;
  aggregation = aggregation ∙ has.aggregation;
  hides_zeros = hides_zeros ∙ has.hides_zeros;
  start = start ∙ has.start;
  table = record {
    rows = ap (λ (t : Table MetricKey (Option ℤ)). t.rows) table ∙ has.table.rows
        ∙ ap (λ n. totals form.aggregation n books.came)
        (sym (ap (λ (t : Table MetricKey (Option ℤ)). t.bound) table));
    dropped_are = ap (λ (t : Table MetricKey (Option ℤ)). t.dropped) table;
  };
  kept = kept row_weighs;
  missing = missing;
}

-- one more row was added, or hidden, of those that were to come
pub adds_next : (hides_zeros : Bool) (start end : ℕ) (old mid new : Keeping (Row ℤ))
    (entries done rest later : List (MetricKey × Option ℤ)) (entry : MetricKey × Option ℤ)
    → entries ≡ done ++ rest → AddsRows row_weighs old mid (flat_map (total_rows hides_zeros start end) done)
    → rest ≡ entry ∷ later → AddsRows row_weighs mid new (total_rows hides_zeros start end entry)
    → (so_far : List (MetricKey × Option ℤ)) × (entries ≡ so_far ++ later)
    × AddsRows row_weighs old new (flat_map (total_rows hides_zeros start end) so_far)
adds_next hides_zeros start end old mid new entries done rest later entry split adds first one =
    let rows_of_entries : List (MetricKey × Option ℤ) → List (Row ℤ) = flat_map (total_rows hides_zeros start end) in
    let next : List (Row ℤ) = total_rows hides_zeros start end entry in (
      done ++ entry ∷ [],
      split ∙ ap (λ l. done ++ l) first ∙ sym (append_assoc done (entry ∷ []) later),
      λ all is. subst (λ rows. IsKept row_weighs rows new)
          (append_assoc all (rows_of_entries done) next
          ∙ ap (λ rows. all ++ rows) (ap (λ rows. rows_of_entries done ++ rows) (sym (append-nil next))
          ∙ sym (flat_map-append (total_rows hides_zeros start end) done (entry ∷ []))))
          (one (all ++ rows_of_entries done) (adds all is)),
    )
