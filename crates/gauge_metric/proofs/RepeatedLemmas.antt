-- The rows of full buckets that have the same samples.
use Rattle.std.proofs.Common.{◌≡◌, ℕ, zero, suc, ◌+◌, ◌-◌, ◌*◌, ◌^◌, ◌<◌, ◌≤◌, min, List, [], ◌∷◌, ◌++◌, map, take, length, slice_get, Some, refl, sym, ap, subst, ◌∙◌, arith, append_assoc, append-nil, ⊎_elim}
use Rattle.std.specs.List.{flat_map}
use Rattle.std.proofs.lemmas.Bool.{cases_lt}
use Rattle.std.proofs.lemmas.List.{length-append, length-map, map-append, take_more, take_all}
use Rattle.std.proofs.lemmas.Option.{slice_get_within, get_or_from_slice_get}
use Rattle.atom_record.specs.declared.atom.Atom.{Atom}
use Rattle.atom_record.specs.declared.value.MetricKey.{MetricKey}
use Rattle.bucket_clock.specs.declared.crossings.Crossings.{Crossings}
use Rattle.bucket_clock.specs.Clock.{last_end}
use Rattle.bucket_meaning.specs.Kept.{count_in_u64}
use Rattle.bucket_meaning.specs.Rows.{rows_of}
use Rattle.kept_rows.specs.KeptRows.{Keeping, IsKept, AddsRows}
use Rattle.metric_producer.specs.declared.row.Row.{Row}
use Rattle.metric_kinds.specs.Gauges.{samples_weight, gauge_kind}
use Rattle.metric_kinds.proofs.JumpLemmas.{parts_again}
use Rattle.gauge_metric.specs.GaugeStands.{sampled, sample_row, HaveSamples}
use Rattle.gauge_metric.specs.PulledStands.{rows_again, KeepsAgain}
use Rattle.gauge_metric.proofs.SampledLemmas.{have_front}
use Rattle.gauge_metric.proofs.GaugeLemmas.{rows_of_part}

-- some rows and then others were added
pub adds_both : (old mid new : Keeping (Row (List Atom))) (rows more : List (Row (List Atom)))
    → AddsRows samples_weight old mid rows → AddsRows samples_weight mid new more
    → AddsRows samples_weight old new (rows ++ more)
adds_both old mid new rows more first second all is =
    subst (λ every. IsKept samples_weight every new) (append_assoc all rows more) (second (all ++ rows) (first all is))

-- no row was added
pub adds_none : (kept : Keeping (Row (List Atom))) → AddsRows samples_weight kept kept []
adds_none kept all is = subst (λ every. IsKept samples_weight every kept) (sym (append-nil all)) is

module _ (rows : List (MetricKey × List Atom)) where
  -- so many buckets and then others
  pub rows_again-split : (start size n more : ℕ)
      → rows_again rows start size (n + more)
      ≡ rows_again rows start size n ++ rows_again rows (start + n * size) size more
  rows_again-split start size zero more =
      let same : 0 + more ≡ more = omega arith in
      let at : start ≡ start + 0 * size = omega arith in
      ap (rows_again rows start size) same ∙ ap (λ s. rows_again rows s size more) at
  rows_again-split start size (suc n) more =
      let same : suc n + more ≡ suc (n + more) = omega arith in
      let at : start + size + n * size ≡ start + suc n * size = omega arith in
      ap (rows_again rows start size) same
      ∙ ap (λ l. map (sample_row start (start + size)) rows ++ l) (rows_again-split (start + size) size n more)
      ∙ sym (append_assoc (map (sample_row start (start + size)) rows) (rows_again rows (start + size) size n)
      (rows_again rows (start + size + n * size) size more))
      ∙ ap (λ s. rows_again rows start size (suc n) ++ rows_again rows s size more) at

  -- one bucket more
  pub rows_again-push : (start size n : ℕ)
      → rows_again rows start size (n + 1)
      ≡ rows_again rows start size n ++ map (sample_row (start + n * size) (start + n * size + size)) rows
  rows_again-push start size n =
      rows_again-split start size n 1
      ∙ ap (λ l. rows_again rows start size n ++ l)
      (append-nil (map (sample_row (start + n * size) (start + n * size + size)) rows))

  -- how many rows they are
  pub rows_again-length : (start size n : ℕ) → length (rows_again rows start size n) ≡ n * length rows
  rows_again-length start size zero = omega arith
  rows_again-length start size (suc n) =
      let rest = rows_again-length (start + size) size n in
      let one = length-map rows (sample_row start (start + size)) in
      length-append (map (sample_row start (start + size)) rows) (rows_again rows (start + size) size n)
      ∙ omega (arith, rest, one)

-- where no key has a sample there is no row
pub rows_again-none : (start size n : ℕ) → rows_again [] start size n ≡ []
rows_again-none start size zero = refl
rows_again-none start size (suc n) = rows_again-none (start + size) size n

-- the rows of parts in which the same came are those of its samples
pub parts_rows : (samples bound : ℕ) (came : List (MetricKey × Atom)) (start size n : ℕ)
    → flat_map (rows_of (gauge_kind samples) bound) (parts_again start size came n)
    ≡ rows_again (sampled samples bound came) start size n
parts_rows samples bound came start size zero = refl
parts_rows samples bound came start size (suc n) =
    ap (λ rows. rows ++ flat_map (rows_of (gauge_kind samples) bound) (parts_again (start + size) size came n))
    (sym (rows_of_part samples bound start (start + size) came))
    ∙ ap (λ rows. map (sample_row start (start + size)) (sampled samples bound came) ++ rows)
    (parts_rows samples bound came (start + size) size n)

-- what is counted once and then so many times more
pub count_times : (first each n : ℕ)
    → count_in_u64 (count_in_u64 first + count_in_u64 (count_in_u64 each * n)) ≡ count_in_u64 (first + n * each)
count_times first each zero = omega arith
count_times first each (suc n) = ⊎_elim
    (λ (small : each < 2 ^ 64).
    let whole : count_in_u64 each ≡ each = omega arith in
    let turned : each * suc n ≡ suc n * each = omega arith in
    ap (λ k. count_in_u64 (count_in_u64 first + count_in_u64 (k * suc n))) whole
    ∙ ap (λ k. count_in_u64 (count_in_u64 first + count_in_u64 k)) turned
    ∙ omega arith)
    (λ (great : 2 ^ 64 ≤ each).
    let full : count_in_u64 each ≡ 2 ^ 64 - 1 = omega arith in
    ap (λ k. count_in_u64 (count_in_u64 first + count_in_u64 (k * suc n))) full ∙ omega arith)
    (cases_lt each (2 ^ 64))

-- the rows of one key more were added, of those that were to come
pub copies_next : (start end : ℕ) (old mid new : Keeping (Row (List Atom))) (rows : List (MetricKey × List Atom))
    (place : ℕ) (entry : MetricKey × List Atom) → slice_get rows place ≡ Some entry
    → (HaveSamples (take place rows) → AddsRows samples_weight old mid (map (sample_row start end) (take place rows)))
    → (1 ≤ length entry.1 → AddsRows samples_weight mid new (sample_row start end entry ∷ []))
    → HaveSamples (take (place + 1) rows)
    → AddsRows samples_weight old new (map (sample_row start end) (take (place + 1) rows))
copies_next start end old mid new rows place entry at so_far one have =
    let is : take (place + 1) rows ≡ take place rows ++ entry ∷ [] =
    take_more rows place entry (slice_get_within rows place entry at)
    ∙ ap (λ r. take place rows ++ r ∷ []) (get_or_from_slice_get rows place entry entry at) in
    let parts = have_front (take place rows) entry (subst HaveSamples is have) in
    subst (AddsRows samples_weight old new)
    (sym (ap (map (sample_row start end)) is ∙ map-append (sample_row start end) (take place rows) (entry ∷ [])))
    (adds_both old mid new (map (sample_row start end) (take place rows)) (sample_row start end entry ∷ [])
    (so_far parts.0) (one parts.1))

-- the rows of all keys were added
pub copies_all : (start end : ℕ) (old new : Keeping (Row (List Atom))) (rows : List (MetricKey × List Atom))
    (place : ℕ) → length rows ≤ place
    → (HaveSamples (take place rows) → AddsRows samples_weight old new (map (sample_row start end) (take place rows)))
    → HaveSamples rows → AddsRows samples_weight old new (map (sample_row start end) rows)
copies_all start end old new rows place past so_far =
    subst (λ all. HaveSamples all → AddsRows samples_weight old new (map (sample_row start end) all))
    (take_all place rows past) so_far

-- What holds after so many of the full buckets of a crossing: the next begins where the last ended, and their rows
-- were added.
pub record HaveGone (old now : Keeping (Row (List Atom))) (rows : List (MetricKey × List Atom)) (crossings : Crossings)
    (start done : ℕ) : Type 0 where
  pub within : done ≤ crossings.full_buckets
  pub starts : last_end crossings < 2 ^ 63 → start ≡ crossings.first_end + done * crossings.size
  pub kept : last_end crossings < 2 ^ 63 → HaveSamples rows
      → AddsRows samples_weight old now (rows_again rows crossings.first_end crossings.size done)

module _ (old : Keeping (Row (List Atom))) (rows : List (MetricKey × List Atom)) (crossings : Crossings) where
  -- none of them yet
  pub gone_none : HaveGone old old rows crossings crossings.first_end 0
  gone_none = record {
    within = omega arith;
    starts = λ fits. omega arith;
    kept = λ fits have. adds_none old;
  }

  -- one more
  pub gone_more : (mid new : Keeping (Row (List Atom))) (start done end : ℕ)
      → HaveGone old mid rows crossings start done → done < crossings.full_buckets
      → end ≡ min (start + crossings.size) (2 ^ 64 - 1)
      → (HaveSamples rows → AddsRows samples_weight mid new (map (sample_row start end) rows))
      → HaveGone old new rows crossings end (done + 1)
  gone_more mid new start done end gone more end_is adds =
      let first = crossings.first_end in
      let size = crossings.size in
      let left = crossings.full_buckets - done in
      let split : crossings.full_buckets ≡ done + suc (left - 1) = omega (arith, more) in
      let whole : crossings.full_buckets * size ≡ done * size + size + (left - 1) * size =
      ap (λ n. n * size) split ∙ omega arith in
      let end_at : last_end crossings < 2 ^ 63 → end ≡ first + done * size + size = λ fits.
      let here = gone.starts fits in omega (arith, here, end_is, whole, fits) in
      record {
        within = omega (arith, more);
        starts = λ fits. end_at fits ∙ omega arith;
        kept = λ fits have.
            subst (AddsRows samples_weight old new) (sym (rows_again-push rows first size done))
            (adds_both old mid new (rows_again rows first size done)
            (map (sample_row (first + done * size) (first + done * size + size)) rows) (gone.kept fits have)
            (subst (λ at. AddsRows samples_weight mid new (map (sample_row (first + done * size) at) rows))
            (end_at fits)
            (subst (λ at. AddsRows samples_weight mid new (map (sample_row at end) rows)) (gone.starts fits)
            (adds have))));
      }

  -- all of them
  pub gone_all : (new : Keeping (Row (List Atom))) (start done : ℕ) → HaveGone old new rows crossings start done
      → crossings.full_buckets ≤ done → KeepsAgain old new rows crossings
  gone_all new start done gone past fits have =
      let all : done ≡ crossings.full_buckets = omega (arith, past, gone.within) in
      subst (λ n. AddsRows samples_weight old new (rows_again rows crossings.first_end crossings.size n)) all
      (gone.kept fits have)

  -- the others were counted alone
  pub gone_passed : (mid new : Keeping (Row (List Atom))) (start done number : ℕ)
      → HaveGone old mid rows crossings start done
      → number ≡ min ((crossings.full_buckets - done) * length rows) (2 ^ 64 - 1)
      → ((weigh : Row (List Atom) → ℕ) (more : List (Row (List Atom))) → count_in_u64 (length more) ≡ number
      → AddsRows weigh mid new more)
      → KeepsAgain old new rows crossings
  gone_passed mid new start done number gone number_is passed fits have =
      let first = crossings.first_end in
      let size = crossings.size in
      let left = crossings.full_buckets - done in
      let others = rows_again rows (first + done * size) size left in
      let split : done + left ≡ crossings.full_buckets = omega (arith, gone.within) in
      subst (AddsRows samples_weight old new)
      (sym (rows_again-split rows first size done left) ∙ ap (rows_again rows first size) split)
      (adds_both old mid new (rows_again rows first size done) others (gone.kept fits have)
      (passed samples_weight others
      (ap count_in_u64 (rows_again-length rows (first + done * size) size left) ∙ sym number_is)))

-- where no key has a sample, no full bucket has a row
pub gone_empty : (kept : Keeping (Row (List Atom))) (rows : List (MetricKey × List Atom)) (crossings : Crossings)
    → rows ≡ [] → KeepsAgain kept kept rows crossings
gone_empty kept rows crossings none =
    subst (λ some. KeepsAgain kept kept some crossings) (sym none)
    (λ fits have. subst (AddsRows samples_weight kept kept)
    (sym (rows_again-none crossings.first_end crossings.size crossings.full_buckets)) (adds_none kept))
