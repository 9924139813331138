-- A condition steps the spans of keys that begin or end, and that is a step of all spans.
use Rattle.std.proofs.Common.{◌≡◌, ℕ, zero, suc, Bool, true, false, ◌||◌, if◌then◌else◌, List, [], ◌∷◌, ◌++◌, map, slice_get, Contains, Some, refl, sym, ap, subst, ◌∙◌, ⊎_elim}
use Rattle.std.specs.List.{IsDistinct, AllByRecursion}
use Rattle.std.specs.Map.{keys_of, values_of}
use Rattle.std.proofs.lemmas.Bool.{cases_Bool}
use Rattle.std.proofs.lemmas.List.Folds.{list_any-append}
use Rattle.std.proofs.lemmas.Map.Keys.{IsDistinct-head, IsDistinct-tail}
use Rattle.std.proofs.lemmas.Option.{none-some, same_Some}
use Rattle.atom_record.specs.Equal.{metric_key_exact}
use Rattle.atom_record.specs.declared.value.MetricKey.{MetricKey}
use Rattle.bucket_meaning.specs.Guard.{is_among, admitted}
use Rattle.bucket_meaning.proofs.GuardLemmas.{admitted-distinct}
use Rattle.dim_table.specs.Table.{Table, keys, set_value_at, with_value_at}
use Rattle.dim_table.proofs.KeyLemmas.{not_among}
use Rattle.metric_producer.proofs.KeysLemmas.{other_way}
use Rattle.metric_kinds.specs.Keys.{is_same_key}
use Rattle.metric_kinds.specs.Runs.{Active, run_keys, last_keys}
use Rattle.duration_metric.specs.declared.sum.Span.{Span}
use Rattle.duration_metric.specs.SumStands.{span_at, no_span, span_of, spans}
use Rattle.duration_metric.specs.SumSteps.{row_when, row_among, StepsSome}
use Rattle.duration_metric.proofs.BeginLemmas.{keys_of-spans}
use Rattle.duration_metric.proofs.SpanLemmas.{span_again, span_steady, first_fails, second_fails}

-- all spans are taken to a time, from which on some keys are active
abbrev pub StepsAll : Table MetricKey Span → Table MetricKey Span → (MetricKey → Bool) → ℕ → Type 0
StepsAll old new is_active at = new ≡ record old { rows = map (row_when is_active at) old.rows }

-- a key that isn't among some is apart from each of them
all_apart : (key : MetricKey) (ks : List MetricKey) → is_among is_same_key key ks ≡ false
    → AllByRecursion (λ other. is_same_key key other ≡ false) ks
all_apart key [] absent = tt
all_apart key (other ∷ ks) absent = (
  other_way is_same_key metric_key_exact other key
      (first_fails (is_same_key other key) (is_among is_same_key key ks) absent),
  all_apart key ks (second_fails (is_same_key other key) (is_among is_same_key key ks) absent),
)

-- a key that stands at one of some places is apart from what they all are apart from
apart_there : (key other : MetricKey) (ks : List MetricKey) (place : ℕ)
    → AllByRecursion (λ k. is_same_key other k ≡ false) ks → slice_get ks place ≡ Some key
    → is_same_key other key ≡ false
apart_there key other [] place apart there = absurd (none-some key there)
apart_there key other (first ∷ ks) zero apart there =
    subst (λ k. is_same_key other k ≡ false) (same_Some first key there) apart.0
apart_there key other (first ∷ ks) (suc place) apart there = apart_there key other ks place apart.1 there

module _ (is_active : MetricKey → Bool) (at : ℕ) where
  -- a second step at one time changes nothing
  same_again : (row : MetricKey × Span)
      → row_when is_active at (row_when is_active at row) ≡ row_when is_active at row
  same_again row =
      ap (λ (s : Span). (row.0, s)) (span_again at at (is_active row.0) row.1.sum row.1.since)

  -- a row is stepped with some keys and then with others where it is with both
  row_twice : (some more : List MetricKey) (row : MetricKey × Span)
      → row_among more is_active at (row_among some is_active at row) ≡ row_among (some ++ more) is_active at row
  row_twice some more row = ⊎_elim
      (λ (there : is_among is_same_key row.0 some ≡ true).
      ap (λ b. row_among more is_active at (if b then row_when is_active at row else row)) there
      ∙ again (is_among is_same_key row.0 more)
      ∙ sym (ap (λ b. if b then row_when is_active at row else row)
      (both ∙ ap (λ b. b || is_among is_same_key row.0 more) there)))
      (λ (absent : is_among is_same_key row.0 some ≡ false).
      ap (λ b. row_among more is_active at (if b then row_when is_active at row else row)) absent
      ∙ sym (ap (λ b. if b then row_when is_active at row else row)
      (both ∙ ap (λ b. b || is_among is_same_key row.0 more) absent)))
      (cases_Bool (is_among is_same_key row.0 some)) where
        both : is_among is_same_key row.0 (some ++ more)
            ≡ (is_among is_same_key row.0 some || is_among is_same_key row.0 more)
        both = list_any-append (λ other. is_same_key other row.0) some more

        again : (b : Bool)
            → (if b then row_when is_active at (row_when is_active at row) else row_when is_active at row)
            ≡ row_when is_active at row
        again true = same_again row
        again false = refl

  rows_twice : (some more : List MetricKey) (rows : List (MetricKey × Span))
      → map (row_among more is_active at) (map (row_among some is_active at) rows)
      ≡ map (row_among (some ++ more) is_active at) rows
  rows_twice some more [] = refl
  rows_twice some more (row ∷ rows) =
      ap (λ (r : MetricKey × Span). r ∷ map (row_among more is_active at) (map (row_among some is_active at) rows))
      (row_twice some more row)
      ∙ ap (λ l. row_among (some ++ more) is_active at row ∷ l) (rows_twice some more rows)

  -- a step changes no key
  key_stays : (some : List MetricKey) (row : MetricKey × Span) → (row_among some is_active at row).0 ≡ row.0
  key_stays some row = by (is_among is_same_key row.0 some) where
    by : (b : Bool) → (if b then row_when is_active at row else row).0 ≡ row.0
    by true = refl
    by false = refl

  keys_stay : (some : List MetricKey) (rows : List (MetricKey × Span))
      → keys_of (map (row_among some is_active at) rows) ≡ keys_of rows
  keys_stay some [] = refl
  keys_stay some (row ∷ rows) =
      ap (λ key. key ∷ keys_of (map (row_among some is_active at) rows)) (key_stays some row)
      ∙ ap (λ l. row.0 ∷ l) (keys_stay some rows)

  -- some keys, and then more
  pub steps_more : (first old new : Table MetricKey Span) (some more : List MetricKey)
      → StepsSome first old some is_active at → StepsSome old new more is_active at
      → StepsSome first new (some ++ more) is_active at
  steps_more first old new some more so_far next once =
      let is = so_far once in
      let same_keys : keys_of old.rows ≡ keys_of first.rows =
      ap (λ (t : Table MetricKey Span). keys_of t.rows) is ∙ keys_stay some first.rows in
      next (subst (IsDistinct is_same_key) (sym same_keys) once)
      ∙ ap (λ (t : Table MetricKey Span). record t { rows = map (row_among more is_active at) t.rows }) is
      ∙ ap (λ rows. record first { rows = rows }) (rows_twice some more first.rows)

  -- so each key that had a row has one
  pub steps_keys : (old new : Table MetricKey Span) (some : List MetricKey) → StepsSome old new some is_active at
      → IsDistinct is_same_key (keys_of old.rows) → keys old ≡ keys new
  steps_keys old new some steps once =
      sym (ap (λ (t : Table MetricKey Span). keys_of t.rows) (steps once) ∙ keys_stay some old.rows)

  rows_stay : (rows : List (MetricKey × Span)) → map (row_among [] is_active at) rows ≡ rows
  rows_stay [] = refl
  rows_stay (row ∷ rows) = ap (λ l. row ∷ l) (rows_stay rows)

  -- without keys nothing is stepped
  pub steps_none : (table : Table MetricKey Span) → StepsSome table table [] is_active at
  steps_none table once = ap (λ rows. record table { rows = rows }) (sym (rows_stay table.rows))

  -- the rows of other keys stay
  others_stay : (key : MetricKey) (rows : List (MetricKey × Span))
      → AllByRecursion (λ other. is_same_key key other ≡ false) (keys_of rows)
      → map (row_among (key ∷ []) is_active at) rows ≡ rows
  others_stay key [] apart = refl
  others_stay key (row ∷ rows) apart =
      ap (λ b. (if b || false then row_when is_active at row else row) ∷ map (row_among (key ∷ []) is_active at) rows)
      apart.0
      ∙ ap (λ l. row ∷ l) (others_stay key rows apart.1)

  -- a write to a key's row is a step of that key
  one_set : (key : MetricKey) (rows : List (MetricKey × Span)) (place : ℕ) (span : Span)
      → IsDistinct is_same_key (keys_of rows) → slice_get (keys_of rows) place ≡ Some key
      → slice_get (values_of rows) place ≡ Some span
      → set_value_at rows place (span_at at (is_active key) span) ≡ map (row_among (key ∷ []) is_active at) rows
  one_set key [] place span once there value = absurd (none-some key there)
  one_set key (row ∷ rows) zero span once there value =
      let is : row.0 ≡ key = same_Some row.0 key there in
      let has : row.1 ≡ span = same_Some row.1 span value in
      let apart = subst (λ k. AllByRecursion (λ other. is_same_key k other ≡ false) (keys_of rows)) is
      (IsDistinct-head is_same_key row.0 (keys_of rows) once) in
      ap (λ k. (row.0, span_at at (is_active k) span) ∷ rows) (sym is)
      ∙ ap (λ (s : Span). (row.0, span_at at (is_active row.0) s) ∷ rows) (sym has)
      ∙ sym (ap (λ b. (if b || false then row_when is_active at row else row)
      ∷ map (row_among (key ∷ []) is_active at) rows) ((metric_key_exact key row.0).1 (sym is))
      ∙ ap (λ l. row_when is_active at row ∷ l) (others_stay key rows apart))
  one_set key (row ∷ rows) (suc place) span once there value =
      let apart : is_same_key key row.0 ≡ false = other_way is_same_key metric_key_exact row.0 key
      (apart_there key row.0 (keys_of rows) place (IsDistinct-head is_same_key row.0 (keys_of rows) once) there) in
      ap (λ l. row ∷ l)
      (one_set key rows place span (IsDistinct-tail is_same_key row.0 (keys_of rows) once) there value)
      ∙ sym (ap (λ b. (if b || false then row_when is_active at row else row)
      ∷ map (row_among (key ∷ []) is_active at) rows) apart)

  -- the span of a key that has one is taken to the time
  pub steps_there : (old : Table MetricKey Span) (key : MetricKey) (place : ℕ) (span result : Span) (is_on : Bool)
      → slice_get (keys old) place ≡ Some key → slice_get (values_of old.rows) place ≡ Some span
      → is_on ≡ is_active key → result ≡ span_at at is_on span
      → StepsSome old (with_value_at old place result) (key ∷ []) is_active at
  steps_there old key place span result is_on there value on_is is once =
      ap (with_value_at old place) (is ∙ ap (λ b. span_at at b span) on_is)
      ∙ ap (λ rows. record old { rows = rows }) (one_set key old.rows place span once there value)

  -- a key that has none changes nothing
  pub steps_absent : (old : Table MetricKey Span) (key : MetricKey) → ¬ Contains (keys old) key
      → StepsSome old old (key ∷ []) is_active at
  steps_absent old key absent once =
      ap (λ rows. record old { rows = rows })
      (sym (others_stay key old.rows
      (all_apart key (keys old) (not_among is_same_key metric_key_exact (keys old) key absent))))

  -- a key that is as active as it was keeps its span
  keeps_span : (came : List (Active MetricKey)) (key : MetricKey)
      → is_active key ≡ is_among is_same_key key (last_keys [] came)
      → span_at at (is_active key) (span_of came key) ≡ span_of came key
  keeps_span came key same =
      ap (λ b. span_at at b (span_of came key)) same ∙ span_steady key at [] no_span came refl

  changed_row : (came : List (Active MetricKey)) (changed : List MetricKey) (key : MetricKey)
      → (is_among is_same_key key changed ≡ false → is_active key ≡ is_among is_same_key key (last_keys [] came))
      → row_among changed is_active at (key, span_of came key) ≡ row_when is_active at (key, span_of came key)
  changed_row came changed key same =
      let row : MetricKey × Span = (key, span_of came key) in
      ⊎_elim
      (λ (there : is_among is_same_key key changed ≡ true).
      ap (λ b. if b then row_when is_active at row else row) there)
      (λ (absent : is_among is_same_key key changed ≡ false).
      ap (λ b. if b then row_when is_active at row else row) absent
      ∙ sym (ap (λ (s : Span). (key, s)) (keeps_span came key (same absent))))
      (cases_Bool (is_among is_same_key key changed))

  -- where every other key is as active as it was, a step of some keys is one of all
  changed_rows : (came : List (Active MetricKey)) (changed ks : List MetricKey)
      → ((key : MetricKey) → is_among is_same_key key changed ≡ false
      → is_active key ≡ is_among is_same_key key (last_keys [] came))
      → map (row_among changed is_active at) (map (λ key. (key, span_of came key)) ks)
      ≡ map (row_when is_active at) (map (λ key. (key, span_of came key)) ks)
  changed_rows came changed [] same = refl
  changed_rows came changed (key ∷ ks) same =
      ap (λ (row : MetricKey × Span). row ∷ map (row_among changed is_active at) (map (λ k. (k, span_of came k)) ks))
      (changed_row came changed key (same key))
      ∙ ap (λ l. row_when is_active at (key, span_of came key) ∷ l) (changed_rows came changed ks same)

  -- the spans of a part are stepped where those of some keys are, and then those of more
  pub steps_changed : (old mid new : Table MetricKey Span) (bound : ℕ) (came : List (Active MetricKey))
      (some more : List MetricKey) → old.rows ≡ spans bound came → StepsSome old mid some is_active at
      → StepsSome mid new more is_active at
      → ((key : MetricKey) → is_among is_same_key key (some ++ more) ≡ false
      → is_active key ≡ is_among is_same_key key (last_keys [] came))
      → StepsAll old new is_active at
  steps_changed old mid new bound came some more rows first later same =
      let ks = admitted is_same_key bound (run_keys is_same_key came) in
      let once : IsDistinct is_same_key (keys_of old.rows) =
      subst (IsDistinct is_same_key) (sym (ap keys_of rows ∙ keys_of-spans (span_of came) ks))
      (admitted-distinct is_same_key bound (run_keys is_same_key came)) in
      steps_more old mid new some more first later once
      ∙ ap (λ l. record old { rows = l })
      (ap (map (row_among (some ++ more) is_active at)) rows ∙ changed_rows came (some ++ more) ks same
      ∙ sym (ap (map (row_when is_active at)) rows))
