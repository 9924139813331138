-- One step of each loop of a producer of sums.
use Rattle.std.proofs.Common.{◌≡◌, ℕ, zero, suc, ◌+◌, ◌*◌, ◌-◌, ◌^◌, ◌<◌, ◌≤◌, true, false, ◌||◌, List, [], ◌∷◌, ◌++◌, map, take, length, get_or, slice_get, Some, None, refl, sym, ap, subst, ◌∙◌, arith, ⊎_elim, append-nil, append_assoc}
use Rattle.std.specs.List.{flat_map, list_any}
use Rattle.std.specs.Map.{keys_of}
use Rattle.std.proofs.lemmas.Bool.{cases_Bool}
use Rattle.std.proofs.lemmas.List.{length-append, length-map, map-append, take_more}
use Rattle.std.proofs.Math.Nat.{mul-le-mul_right}
use Rattle.std.proofs.lemmas.Grind.{flat_map-append}
use Rattle.std.proofs.lemmas.Option.{none-some, same_Some, slice_get_within, get_or_from_slice_get}
use Rattle.atom_record.specs.Equal.{metric_key_exact}
use Rattle.atom_record.specs.declared.value.MetricKey.{MetricKey}
use Rattle.bucket_meaning.specs.Guard.{is_among}
use Rattle.bucket_meaning.specs.Kept.{count_in_u64}
use Rattle.kept_rows.specs.KeptRows.{Keeping, IsKept, AddsRows}
use Rattle.metric_producer.specs.declared.row.Row.{Row}
use Rattle.metric_producer.proofs.KeysLemmas.{other_way}
use Rattle.metric_kinds.specs.Keys.{is_same_key}
use Rattle.metric_kinds.specs.Counts.{row_weight}
use Rattle.duration_metric.specs.declared.sum.Span.{Span}
use Rattle.duration_metric.specs.SumStands.{span_row, whole_row, whole_rows}

-- a key is among some by either order of the test
pub among_is : (key : MetricKey) (ks : List MetricKey) → list_any (is_same_key key) ks ≡ is_among is_same_key key ks
among_is key [] = refl
among_is key (other ∷ ks) = ⊎_elim
    (λ (alike : is_same_key key other ≡ true).
    let back : is_same_key other key ≡ true =
    (metric_key_exact other key).1 (sym ((metric_key_exact key other).0 alike)) in
    ap (λ b. b || list_any (is_same_key key) ks) alike ∙ sym (ap (λ b. b || is_among is_same_key key ks) back))
    (λ (differs : is_same_key key other ≡ false).
    ap (λ b. b || list_any (is_same_key key) ks) differs ∙ among_is key ks
    ∙ sym (ap (λ b. b || is_among is_same_key key ks) (other_way is_same_key metric_key_exact key other differs)))
    (cases_Bool (is_same_key key other))

-- the list with one element more
pub next_taken : {X : Type 0} (xs : List X) (i : ℕ) (x : X) → i < length xs → x ≡ get_or xs i x
    → take (i + 1) xs ≡ take i xs ++ x ∷ []
next_taken xs i x within is = take_more xs i x within ∙ ap (λ y. take i xs ++ y ∷ []) (sym is)

pub next_got : {X : Type 0} (xs : List X) (i : ℕ) (x : X) → slice_get xs i ≡ Some x
    → take (i + 1) xs ≡ take i xs ++ x ∷ []
next_got xs i x at =
    take_more xs i x (slice_get_within xs i x at) ∙ ap (λ y. take i xs ++ y ∷ []) (get_or_from_slice_get xs i x x at)

pub past_all : {X : Type 0} (xs : List X) (i : ℕ) → slice_get xs i ≡ None → length xs ≤ i
past_all [] i none = omega arith
past_all (x ∷ xs) zero none = absurd (none-some x (sym none))
past_all (x ∷ xs) (suc i) none = omega (arith, past_all xs i none)

-- nothing is added
pub adds_none : (it : Keeping (Row ℕ)) → AddsRows row_weight it it []
adds_none it all is = subst (λ rows. IsKept row_weight rows it) (sym (append-nil all)) is

-- some rows, and then others
pub adds_more : (old mid new : Keeping (Row ℕ)) (some more : List (Row ℕ)) → AddsRows row_weight old mid some
    → AddsRows row_weight mid new more → AddsRows row_weight old new (some ++ more)
adds_more old mid new some more first later all is =
    subst (λ rows. IsKept row_weight rows new) (append_assoc all some more) (later (all ++ some) (first all is))

-- the rows of one span more
pub adds_span : (start end : ℕ) (old mid new : Keeping (Row ℕ)) (done : List (MetricKey × Span))
    (entry : MetricKey × Span) → AddsRows row_weight old mid (flat_map (span_row start end) done)
    → AddsRows row_weight mid new (span_row start end entry)
    → AddsRows row_weight old new (flat_map (span_row start end) (done ++ entry ∷ []))
adds_span start end old mid new done entry first later =
    subst (AddsRows row_weight old new)
    (sym (flat_map-append (span_row start end) done (entry ∷ [])
    ∙ ap (λ l. flat_map (span_row start end) done ++ l) (append-nil (span_row start end entry))))
    (adds_more old mid new (flat_map (span_row start end) done) (span_row start end entry) first later)

-- so many full buckets, and then others
pub whole_rows-split : (start size i n : ℕ) (keys : List MetricKey)
    → whole_rows start size (i + n) keys
    ≡ whole_rows start size i keys ++ whole_rows (start + i * size) size n keys
whole_rows-split start size zero n keys =
    let none : 0 + n ≡ n = omega arith in
    let stays : start ≡ start + 0 * size = omega arith in
    ap (λ m. whole_rows start size m keys) none ∙ ap (λ s. whole_rows s size n keys) stays
whole_rows-split start size (suc i) n keys =
    let more : suc i + n ≡ suc (i + n) = omega arith in
    let next : (start + size) + i * size ≡ start + suc i * size = omega arith in
    ap (λ m. whole_rows start size m keys) more
    ∙ ap (λ l. map (whole_row start size) keys ++ l) (whole_rows-split (start + size) size i n keys)
    ∙ sym (append_assoc (map (whole_row start size) keys) (whole_rows (start + size) size i keys)
    (whole_rows ((start + size) + i * size) size n keys))
    ∙ ap (λ s. whole_rows start size (suc i) keys ++ whole_rows s size n keys) next

pub whole_rows-length : (start size n : ℕ) (keys : List MetricKey)
    → length (whole_rows start size n keys) ≡ n * length keys
whole_rows-length start size zero keys = omega arith
whole_rows-length start size (suc n) keys =
    let later = whole_rows-length (start + size) size n keys in
    length-append (map (whole_row start size) keys) (whole_rows (start + size) size n keys)
    ∙ omega (arith, later, length-map keys (whole_row start size))

-- where no key is active, full buckets have no rows
pub whole_rows-none : (start size n : ℕ) → whole_rows start size n [] ≡ []
whole_rows-none start size zero = refl
whole_rows-none start size (suc n) = whole_rows-none (start + size) size n

-- one full bucket more
pub adds_bucket : (first size turn start : ℕ) (keys : List MetricKey) (old mid new : Keeping (Row ℕ))
    → start ≡ first + turn * size → AddsRows row_weight old mid (whole_rows first size turn keys)
    → AddsRows row_weight mid new (map (whole_row start size) keys)
    → AddsRows row_weight old new (whole_rows first size (turn + 1) keys)
adds_bucket first size turn start keys old mid new at so_far later =
    subst (AddsRows row_weight old new)
    (ap (λ l. whole_rows first size turn keys ++ l)
    (ap (λ s. map (whole_row s size) keys) at
    ∙ sym (append-nil (map (whole_row (first + turn * size) size) keys)))
    ∙ sym (whole_rows-split first size turn 1 keys))
    (adds_more old mid new (whole_rows first size turn keys) (map (whole_row start size) keys) so_far later)

-- as many keys as rows
pub keys-length : (rows : List (MetricKey × Span)) → length (keys_of rows) ≡ length rows
keys-length [] = refl
keys-length (row ∷ rows) = ap suc (keys-length rows)

-- the row of one key more of a full bucket
pub adds_whole : (start size end n : ℕ) (rows : List (MetricKey × Span)) (entry : MetricKey × Span) (row : Row ℕ)
    (old mid new : Keeping (Row ℕ)) → slice_get rows n ≡ Some entry → end ≡ start + size
    → row ≡ record { key = entry.0; start = start; end = end; value = size }
    → AddsRows row_weight old mid (map (whole_row start size) (take n (keys_of rows)))
    → AddsRows row_weight mid new (row ∷ [])
    → AddsRows row_weight old new (map (whole_row start size) (take (n + 1) (keys_of rows)))
adds_whole start size end n rows entry row old mid new there ends is so_far later =
    let keys = keys_of rows in
    let one : whole_row start size entry.0 ≡ row =
    sym (is ∙ ap (λ e. record { key = entry.0; start = start; end = e; value = size }) ends) in
    subst (AddsRows row_weight old new)
    (sym (ap (map (whole_row start size)) (next_got keys n entry.0 (key_there rows n entry there))
    ∙ map-append (whole_row start size) (take n keys) (entry.0 ∷ [])
    ∙ ap (λ r. map (whole_row start size) (take n keys) ++ r ∷ []) one))
    (adds_more old mid new (map (whole_row start size) (take n keys)) (row ∷ []) so_far later) where
      key_there : (rows : List (MetricKey × Span)) (n : ℕ) (entry : MetricKey × Span) → slice_get rows n ≡ Some entry
          → slice_get (keys_of rows) n ≡ Some entry.0
      key_there [] n entry there = absurd (none-some entry there)
      key_there (first ∷ rows) zero entry there =
          ap (λ (e : MetricKey × Span). Some e.0) (same_Some first entry there)
      key_there (first ∷ rows) (suc n) entry there = key_there rows n entry there

-- all others are counted
pub adds_rest : (first size turn full number : ℕ) (keys : List MetricKey) (old mid new : Keeping (Row ℕ))
    → turn ≤ full → number ≡ count_in_u64 ((full - turn) * length keys)
    → AddsRows row_weight old mid (whole_rows first size turn keys)
    → ((more : List (Row ℕ)) → count_in_u64 (length more) ≡ number → AddsRows row_weight mid new more)
    → AddsRows row_weight old new (whole_rows first size full keys)
adds_rest first size turn full number keys old mid new within is so_far later =
    let rest = whole_rows (first + turn * size) size (full - turn) keys in
    let all : turn + (full - turn) ≡ full = omega (arith, within) in
    subst (λ n. AddsRows row_weight old new (whole_rows first size n keys)) all
    (subst (AddsRows row_weight old new) (sym (whole_rows-split first size turn (full - turn) keys))
    (adds_more old mid new (whole_rows first size turn keys) rest so_far
    (later rest (ap count_in_u64 (whole_rows-length (first + turn * size) size (full - turn) keys) ∙ sym is))))

no_items : {X : Type 0} (xs : List X) → length xs ≡ 0 → xs ≡ []
no_items [] none = refl
no_items (x ∷ xs) none = absurd (omega (arith, none))

-- without keys nothing is added
pub adds_no_key : (first size n : ℕ) (keys : List MetricKey) (it : Keeping (Row ℕ)) → length keys ≡ 0
    → AddsRows row_weight it it (whole_rows first size n keys)
adds_no_key first size n keys it none =
    subst (AddsRows row_weight it it)
    (sym (ap (whole_rows first size n) (no_items keys none) ∙ whole_rows-none first size n)) (adds_none it)

-- a bucket of a crossing ends before the last one does
pub bucket_fits : (first size turn full : ℕ) → turn < full → first + full * size < 2 ^ 63
    → (first + turn * size + size < 2 ^ 63) × (first + (turn + 1) * size ≡ first + turn * size + size)
bucket_fits first size turn full more fits =
    let within : (turn + 1) * size ≤ full * size = mul-le-mul_right size (omega (arith, more)) in
    let one : (turn + 1) * size ≡ turn * size + size = omega arith in
    (omega (arith, within, one, fits), omega (arith, one))
