-- Rows kept or counted one after the other, and the same rows in full buckets one after the other.
use Rattle.std.proofs.Common.{◌≡◌, ℕ, ℤ, zero, suc, ◌+◌, ◌-◌, ◌*◌, ◌^◌, ◌<◌, ◌≤◌, min, Bool, true, false, ◌&&◌, if◌then◌else◌, pos, List, [], ◌∷◌, ◌++◌, length, take, Option, Some, slice_get, refl, sym, ap, subst, ◌∙◌, arith, append_assoc, append-nil}
use Rattle.std.specs.List.{flat_map}
use Rattle.std.specs.Ordering.{int_eq}
use Rattle.std.proofs.lemmas.List.{length-append}
use Rattle.atom_record.specs.declared.value.MetricKey.{MetricKey}
use Rattle.bucket_meaning.specs.Kept.{count_in_u64}
use Rattle.bucket_meaning.specs.Limits.{time_limit}
use Rattle.kept_rows.specs.KeptRows.{Keeping, IsKept, AddsRows}
use Rattle.metric_producer.specs.declared.row.Row.{Row}
use Rattle.metric_kinds.specs.Values.{unless_hidden}
use Rattle.value_metric.specs.Totals.{total_rows, shown_total, bucket_rows, row_weighs, AddsCounted}
use Rattle.value_metric.proofs.MarksTaken.{given_more}

-- each admitted key with what its integers give
abbrev Totals : Type 0
Totals = List (MetricKey × Option ℤ)

-- no row
pub adds_none : (it : Keeping (Row ℤ)) → AddsRows row_weighs it it []
adds_none it all is = subst (λ rows. IsKept row_weighs rows it) (sym (append-nil all)) is

-- rows and more rows
pub adds_append : (old mid new : Keeping (Row ℤ)) (rows more : List (Row ℤ)) → AddsRows row_weighs old mid rows
    → AddsRows row_weighs mid new more → AddsRows row_weighs old new (rows ++ more)
adds_append old mid new rows more first second all is =
    subst (λ r. IsKept row_weighs r new) (append_assoc all rows more) (second (all ++ rows) (first all is))

-- rows and more rows, counted
pub counts_append : (old mid new : Keeping (Row ℤ)) (count more_count : ℕ) (rows more : List (Row ℤ))
    → AddsCounted old mid count rows → AddsCounted mid new more_count more
    → AddsCounted old new (count + more_count) (rows ++ more)
counts_append old mid new count more_count rows more first second = (
  adds_append old mid new rows more first.0 second.0,
  omega (arith, first.1, second.1, length-append rows more),
)

one_at_most : (hides : Bool) (row : Row ℤ) → length (if hides then [] else row ∷ []) ≤ 1
one_at_most true row = omega arith
one_at_most false row = omega arith

-- a key has one row at most
pub few_rows : (hides_zeros : Bool) (row : Row ℤ) → length (unless_hidden hides_zeros row) ≤ 1
few_rows hides_zeros row = one_at_most (hides_zeros && int_eq row.value (pos 0)) row

-- one key more has its row
pub keeps_more : (hides_zeros : Bool) (start end : ℕ) (totals : Totals) (place : ℕ) (entry : MetricKey × Option ℤ)
    (old mid new : Keeping (Row ℤ)) (count more : ℕ) → slice_get totals place ≡ Some entry
    → AddsCounted old mid count (flat_map (total_rows hides_zeros start end) (take place totals)) × (count ≤ place)
    → AddsCounted mid new more (total_rows hides_zeros start end entry)
    → AddsCounted old new (count + more) (flat_map (total_rows hides_zeros start end) (take (place + 1) totals))
    × (count + more ≤ place + 1)
keeps_more hides_zeros start end totals place entry old mid new count more at before one =
    let gives : MetricKey × Option ℤ → List (Row ℤ) = total_rows hides_zeros start end in
    let few = few_rows hides_zeros
    (record { key = entry.0; start = start; end = end; value = shown_total entry.1 }) in (
      subst (AddsCounted old new (count + more)) (sym (given_more gives totals place entry at))
          (counts_append old mid new count more (flat_map gives (take place totals)) (gives entry) before.0 one),
      omega (arith, before.1, one.1, few),
    )

same_one : (hides : Bool) (row other : Row ℤ)
    → length (if hides then [] else row ∷ []) ≡ length (if hides then [] else other ∷ [])
same_one true row other = refl
same_one false row other = refl

-- the same totals have as many rows in each part
pub same_count : (hides_zeros : Bool) (totals : Totals) (start end start' end' : ℕ)
    → length (flat_map (total_rows hides_zeros start end) totals)
    ≡ length (flat_map (total_rows hides_zeros start' end') totals)
same_count hides_zeros [] start end start' end' = refl
same_count hides_zeros (entry ∷ totals) start end start' end' =
    let row : Row ℤ = record { key = entry.0; start = start; end = end; value = shown_total entry.1 } in
    let other : Row ℤ = record { key = entry.0; start = start'; end = end'; value = shown_total entry.1 } in
    let one = same_one (hides_zeros && int_eq row.value (pos 0)) row other in
    let rest = same_count hides_zeros totals start end start' end' in
    let left = length-append (unless_hidden hides_zeros row) (flat_map (total_rows hides_zeros start end) totals) in
    let right = length-append (unless_hidden hides_zeros other)
    (flat_map (total_rows hides_zeros start' end') totals) in
    omega (arith, one, rest, left, right)

-- how many rows so many full buckets have
pub bucket_count : (hides_zeros : Bool) (totals : Totals) (size start n first last : ℕ)
    → length (bucket_rows hides_zeros totals size start n)
    ≡ n * length (flat_map (total_rows hides_zeros first last) totals)
bucket_count hides_zeros totals size start zero first last = omega arith
bucket_count hides_zeros totals size start (suc n) first last =
    let rows = flat_map (total_rows hides_zeros start (start + size)) totals in
    let count = length (flat_map (total_rows hides_zeros first last) totals) in
    let rest : length (bucket_rows hides_zeros totals size (start + size) n) ≡ n * count =
    bucket_count hides_zeros totals size (start + size) n first last in
    let here : length rows ≡ count = same_count hides_zeros totals start (start + size) first last in
    let both = length-append rows (bucket_rows hides_zeros totals size (start + size) n) in
    let product : suc n * count ≡ count + n * count = omega arith in
    omega (arith, rest, here, both, product)

-- a list without length is empty
empty_of : {X : Type 0} (xs : List X) → length xs ≡ 0 → xs ≡ []
empty_of [] none = refl
empty_of (x ∷ xs) none = absurd (omega (arith, none))

-- the first of so many buckets ends before the end of time, where all do
pub first_end : (start size number end : ℕ) → 1 ≤ number → start + number * size < time_limit
    → end ≡ min (start + size) (2 ^ 64 - 1) → end ≡ start + size
first_end start size zero end some fits is = absurd (omega (arith, some))
first_end start size (suc n) end some fits is =
    let all : start + size + n * size ≡ start + suc n * size = omega arith in omega (arith, all, fits, is)

module _ (hides_zeros : Bool) (totals : Totals) (size start number : ℕ) (old : Keeping (Row ℤ)) (rows : ℕ) where
  -- How far the buckets have come: the rows of the first of them are kept or counted, the next begins at `from`, and
  -- so many are left. What is kept of theirs makes up all.
  pub record AreAlong (now : Keeping (Row ℤ)) (turn from : ℕ) : Type 0 where
    pub left : ℕ
    pub number_is : number ≡ turn + left
    pub from_is : from + left * size ≡ start + number * size
    pub completes : (new : Keeping (Row ℤ))
        → AddsRows row_weighs now new (bucket_rows hides_zeros totals size from left)
        → AddsRows row_weighs old new (bucket_rows hides_zeros totals size start number)

  -- each bucket has so many rows
  abbrev pub IsCount : Type 0
  IsCount = (first last : ℕ) → rows ≡ length (flat_map (total_rows hides_zeros first last) totals)

  -- the first bucket's rows are kept or counted
  pub along_first : (now : Keeping (Row ℤ)) → 1 ≤ number
      → AddsRows row_weighs old now (flat_map (total_rows hides_zeros start (start + size)) totals)
      → AreAlong now 1 (start + size)
  along_first now some first = by number refl some where
    by : (n : ℕ) → number ≡ n → 1 ≤ n → AreAlong now 1 (start + size)
    by zero is none = absurd (omega (arith, none))
    by (suc n) is none = record {
      left = n;
      number_is = omega (arith, is);
      from_is = let all : (start + size) + n * size ≡ start + suc n * size = omega arith in
          all ∙ ap (λ m. start + m * size) (sym is);
      completes = λ new rest. subst (λ m. AddsRows row_weighs old new (bucket_rows hides_zeros totals size start m))
          (sym is) (adds_append old now new (flat_map (total_rows hides_zeros start (start + size)) totals)
          (bucket_rows hides_zeros totals size (start + size) n) first rest);
    }

  -- one bucket more
  pub along_next : (now next : Keeping (Row ℤ)) (turn from : ℕ) → turn < number → AreAlong now turn from
      → AddsRows row_weighs now next (flat_map (total_rows hides_zeros from (from + size)) totals)
      → AreAlong next (turn + 1) (from + size)
  along_next now next turn from more along here = by along.left along.number_is along.from_is along.completes where
    by : (n : ℕ) → number ≡ turn + n → from + n * size ≡ start + number * size
        → ((new : Keeping (Row ℤ)) → AddsRows row_weighs now new (bucket_rows hides_zeros totals size from n)
        → AddsRows row_weighs old new (bucket_rows hides_zeros totals size start number))
        → AreAlong next (turn + 1) (from + size)
    by zero is from_is completes = absurd (omega (arith, is, more))
    by (suc n) is from_is completes = record {
      left = n;
      number_is = omega (arith, is);
      from_is = let all : (from + size) + n * size ≡ from + suc n * size = omega arith in all ∙ from_is;
      completes = λ new rest. completes new (adds_append now next new
          (flat_map (total_rows hides_zeros from (from + size)) totals)
          (bucket_rows hides_zeros totals size (from + size) n) here rest);
    }

  -- the next bucket fits before the end of time
  pub along_fits : (now : Keeping (Row ℤ)) (turn from : ℕ) → turn < number → AreAlong now turn from
      → start + number * size < time_limit → from + size < time_limit
  along_fits now turn from more along fits = by along.left along.number_is along.from_is where
    by : (n : ℕ) → number ≡ turn + n → from + n * size ≡ start + number * size → from + size < time_limit
    by zero is from_is = absurd (omega (arith, is, more))
    by (suc n) is from_is =
        let all : (from + size) + n * size ≡ from + suc n * size = omega arith in
        omega (arith, all, from_is, fits)

  -- the last bucket was kept or counted
  pub along_end : (now : Keeping (Row ℤ)) (turn from : ℕ) → number ≤ turn → AreAlong now turn from
      → AddsRows row_weighs old now (bucket_rows hides_zeros totals size start number)
  along_end now turn from end along =
      let none : along.left ≡ 0 = omega (arith, along.number_is, end) in
      along.completes now (subst (λ n. AddsRows row_weighs now now (bucket_rows hides_zeros totals size from n))
      (sym none) (adds_none now))

  -- no bucket has a row
  pub along_empty : (now : Keeping (Row ℤ)) (turn from : ℕ) → IsCount → rows ≡ 0 → AreAlong now turn from
      → AddsRows row_weighs old now (bucket_rows hides_zeros totals size start number)
  along_empty now turn from count none along =
      let all : length (bucket_rows hides_zeros totals size from along.left) ≡ along.left * 0 =
      bucket_count hides_zeros totals size from along.left 0 0
      ∙ ap (λ n. along.left * n) (sym (count 0 0) ∙ none) in
      let product : along.left * 0 ≡ 0 = omega arith in
      along.completes now (subst (AddsRows row_weighs now now)
      (sym (empty_of (bucket_rows hides_zeros totals size from along.left) (all ∙ product))) (adds_none now))

  -- no row finds room any more: all others are counted at once
  pub along_full : (now new : Keeping (Row ℤ)) (turn from passed : ℕ) → IsCount → AreAlong now turn from
      → passed ≡ min ((number - turn) * rows) (2 ^ 64 - 1)
      → ((weigh : Row ℤ → ℕ) (more : List (Row ℤ)) → count_in_u64 (length more) ≡ passed → AddsRows weigh now new more)
      → AddsRows row_weighs old new (bucket_rows hides_zeros totals size start number)
  along_full now new turn from passed count along is passes =
      let left_is : number - turn ≡ along.left = omega (arith, along.number_is) in
      let all : length (bucket_rows hides_zeros totals size from along.left) ≡ along.left * rows =
      bucket_count hides_zeros totals size from along.left 0 0 ∙ ap (λ n. along.left * n) (sym (count 0 0)) in
      along.completes new (passes row_weighs (bucket_rows hides_zeros totals size from along.left)
      (ap count_in_u64 all ∙ sym (is ∙ ap (λ n. min (n * rows) (2 ^ 64 - 1)) left_is)))
