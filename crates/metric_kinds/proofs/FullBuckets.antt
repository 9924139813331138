-- Full buckets one after the other in which the same keys are active, for the producer of sums: nothing is dropped, and
-- each bucket has the same rows, a bucket's length later.
use Rattle.std.proofs.Common.{◌≡◌, ℕ, zero, suc, ◌+◌, ◌-◌, ◌<◌, ◌≤◌, ◌==◌, Bool, true, false, ◌||◌, if◌then◌else◌, List, [], ◌∷◌, ◌++◌, map, length, sum, refl, sym, ap, ◌∙◌, append-nil, append_assoc, arith}
use Rattle.std.specs.List.{flat_map, AllByRecursion, IsDistinct}
use Rattle.std.proofs.lemmas.List.{take_all, length-append}
use Rattle.atom_record.specs.Equal.{metric_key_exact}
use Rattle.atom_record.specs.declared.value.MetricKey.{MetricKey}
use Rattle.bucket_meaning.specs.Ends.{ends_from}
use Rattle.bucket_meaning.specs.Guard.{is_among, with_key, firsts, admitted, dropped, of_key}
use Rattle.bucket_meaning.specs.Marks.{Part, books_from, boundary_marks}
use Rattle.bucket_meaning.specs.Rows.{drops, row_of, rows_of}
use Rattle.bucket_meaning.proofs.GuardLemmas.{is_among-push, none_dropped_all}
use Rattle.metric_producer.specs.declared.row.Row.{Row}
use Rattle.metric_kinds.specs.Keys.{is_same_key}
use Rattle.metric_kinds.specs.Runs.{Active, newly, runs, run_keys}
use Rattle.metric_kinds.specs.Durations.{sum_kind, active_edges, duration_row}
use Rattle.metric_kinds.proofs.RunsLemmas.{sum_of_runs}

-- at a part's start all keys are new
all_new : (keys : List MetricKey) → newly is_same_key [] keys ≡ keys
all_new [] = refl
all_new (key ∷ keys) = ap (λ l. key ∷ l) (all_new keys)

-- there are no more first keys than keys
few_with : (seen : List MetricKey) (key : MetricKey) (known : Bool)
    → length (if known then seen else seen ++ key ∷ []) ≤ length seen + 1
few_with seen key true = omega arith
few_with seen key false = omega (arith, length-append seen (key ∷ []))

few_firsts : (seen keys : List MetricKey) → length (firsts is_same_key seen keys) ≤ length seen + length keys
few_firsts seen [] = omega arith
few_firsts seen (key ∷ keys) =
    let more = few_with seen key (is_among is_same_key key seen) in
    omega (arith, more, few_firsts (with_key is_same_key seen key) keys)

-- one of two, where the second is
or_later : (first second : Bool) → second ≡ true → (first || second) ≡ true
or_later true second is = refl
or_later false second is = is

-- none of these keys is seen before the first
none_seen : (keys : List MetricKey) → AllByRecursion (λ key. is_among is_same_key key [] ≡ false) keys
none_seen [] = tt
none_seen (key ∷ keys) = (refl, none_seen keys)

-- nor is any where one more was seen from which they differ
none_more : (seen : List MetricKey) (last : MetricKey) (keys : List MetricKey)
    → AllByRecursion (λ key. is_among is_same_key key seen ≡ false) keys
    → AllByRecursion (λ key. is_same_key last key ≡ false) keys
    → AllByRecursion (λ key. is_among is_same_key key (seen ++ last ∷ []) ≡ false) keys
none_more seen last [] none differs = tt
none_more seen last (key ∷ keys) none differs = (
  is_among-push is_same_key key seen last ∙ ap (λ b. b || is_same_key last key) none.0 ∙ differs.0,
  none_more seen last keys none.1 differs.1,
)

-- keys that differ are all first keys
distinct_firsts : (seen keys : List MetricKey) → IsDistinct is_same_key keys
    → AllByRecursion (λ key. is_among is_same_key key seen ≡ false) keys
    → firsts is_same_key seen keys ≡ seen ++ keys
unfolding IsDistinct
distinct_firsts seen [] distinct none = sym (append-nil seen)
distinct_firsts seen (key ∷ keys) distinct none =
    ap (λ b. firsts is_same_key (if b then seen else seen ++ key ∷ []) keys) none.0
    ∙ distinct_firsts (seen ++ key ∷ []) keys distinct.1 (none_more seen key keys none.1 distinct.0)
    ∙ append_assoc seen (key ∷ []) keys

-- the keys that are active from a time on
abbrev pub active_from : List MetricKey → ℕ → Active MetricKey
active_from keys at = record { at = at; keys = keys }

-- so many full buckets, one after the other, in which only their opening came
abbrev pub full_parts : List MetricKey → ℕ → ℕ → ℕ → List (Part (Active MetricKey))
full_parts keys start size zero = []
full_parts keys start size (suc n) =
    record { start = start; end = start + size; came = active_from keys start ∷ [] }
    ∷ full_parts keys (start + size) size n

-- where the last of them ends
abbrev pub after_full : ℕ → ℕ → ℕ → ℕ
after_full start size zero = start
after_full start size (suc n) = after_full (start + size) size n

-- the row of a key that is active in all of a full bucket
abbrev pub full_row : ℕ → ℕ → MetricKey → Row ℕ
full_row start size key = record { key = key; start = start; end = start + size; value = size }

module _ (bound : ℕ) (keys : List MetricKey) (few : length keys ≤ bound) where
  -- all keys that are active at the beginning of a part are admitted
  all_admitted : admitted is_same_key bound keys ≡ firsts is_same_key [] keys
  all_admitted = take_all bound (firsts is_same_key [] keys) (omega (arith, few_firsts [] keys))

  -- none of them is dropped
  pub none_dropped_first : (at : ℕ) → drops sum_kind bound [] (active_from keys at) ≡ 0
  none_dropped_first at =
      ap (λ ks. dropped is_same_key bound ks - 0) (append-nil (newly is_same_key [] keys) ∙ all_new keys)
      ∙ ap (λ n. n - 0) (none_dropped_all is_same_key metric_key_exact bound keys all_admitted)

  -- after so many full ends the part that is open has its opening alone, each bucket before it was closed with its own,
  -- and nothing was dropped
  pub full_books : (start size n : ℕ) (closed : List (Part (Active MetricKey))) (lost missing : ℕ)
      → books_from (drops sum_kind bound)
      (record { start = start; came = active_from keys start ∷ []; closed = closed; dropped = lost; missing = missing })
      (boundary_marks (active_edges keys) (ends_from (start + size) size n))
      ≡ record {
        start = after_full start size n;
        came = active_from keys (after_full start size n) ∷ [];
        closed = closed ++ full_parts keys start size n;
        dropped = lost;
        missing = missing;
      }
  full_books start size zero closed lost missing =
      ap (λ parts. record {
        start = start;
        came = active_from keys start ∷ [];
        closed = parts;
        dropped = lost;
        missing = missing;
      }) (sym (append-nil closed))
  full_books start size (suc n) closed lost missing =
      let next = start + size in
      let first : Part (Active MetricKey) =
      record { start = start; end = next; came = active_from keys start ∷ [] } in
      let rest = boundary_marks (active_edges keys) (ends_from (next + size) size n) in
      let shut : List (Part (Active MetricKey)) = closed ++ first ∷ [] in
      let nothing : lost + drops sum_kind bound [] (active_from keys next) ≡ lost =
      ap (λ d. lost + d) (none_dropped_first next) ∙ omega arith in
      ap (λ d. books_from (drops sum_kind bound)
      (record { start = next; came = active_from keys next ∷ []; closed = shut; dropped = d; missing = missing }) rest)
      nothing
      ∙ full_books next size n shut lost missing
      ∙ ap (λ parts. record {
        start = after_full next size n;
        came = active_from keys (after_full next size n) ∷ [];
        closed = parts;
        dropped = lost;
        missing = missing;
      }) (append_assoc closed (first ∷ []) (full_parts keys next size n))

  module _ (distinct : IsDistinct is_same_key keys) (size : ℕ) (sized : 0 < size) (start : ℕ) where
    abbrev the_part : Part (Active MetricKey)
    the_part = record { start = start; end = start + size; came = active_from keys start ∷ [] }

    -- a key that is active from the beginning on has the bucket's whole length
    row_is : (key : MetricKey) → is_among is_same_key key keys ≡ true
        → row_of sum_kind bound the_part key ≡ full_row start size key ∷ []
    row_is key among =
        let row : ℕ → List (Row ℕ) = duration_row start (start + size) key in
        let came = runs is_same_key (active_from keys start ∷ []) (start + size) in
        let whole : sum (of_key is_same_key key came) ≡ size =
        sum_of_runs is_same_key metric_key_exact key (active_from keys start ∷ []) start (start + size)
        (omega arith, tt) (omega arith) (distinct, tt)
        ∙ ap (λ b. (if b then start + size - start else 0) + 0) among ∙ omega arith in
        let some : (size == 0) ≡ false = grind (arith, sized) in
        ap row whole ∙ ap (λ b. if b then [] else full_row start size key ∷ []) some

    rows_are : (rest : List MetricKey)
        → ((key : MetricKey) → is_among is_same_key key rest ≡ true → is_among is_same_key key keys ≡ true)
        → flat_map (row_of sum_kind bound the_part) rest ≡ map (full_row start size) rest
    rows_are [] each = refl
    rows_are (key ∷ rest) each =
        let itself : is_same_key key key ≡ true = (metric_key_exact key key).1 refl in
        let here = each key (ap (λ b. b || is_among is_same_key key rest) itself) in
        ap (λ rows. rows ++ flat_map (row_of sum_kind bound the_part) rest) (row_is key here)
        ∙ ap (λ rows. full_row start size key ∷ rows)
        (rows_are rest (λ k later. each k (or_later (is_same_key key k) (is_among is_same_key k rest) later)))

    -- each active key has its row, in their order
    pub full_rows : rows_of sum_kind bound the_part ≡ map (full_row start size) keys
    full_rows =
        append-nil (flat_map (row_of sum_kind bound the_part)
        (admitted is_same_key bound (run_keys is_same_key (active_from keys start ∷ []))))
        ∙ ap (λ ks. flat_map (row_of sum_kind bound the_part) (admitted is_same_key bound ks))
        (append-nil (newly is_same_key [] keys) ∙ all_new keys)
        ∙ ap (flat_map (row_of sum_kind bound the_part))
        (all_admitted ∙ distinct_firsts [] keys distinct (none_seen keys))
        ∙ rows_are keys (λ key is. is)
