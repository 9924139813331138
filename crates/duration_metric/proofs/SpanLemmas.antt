-- Spans of keys: what is summed step by step is the time of the runs, found by looking ahead.
use Rattle.std.proofs.Common.{◌≡◌, ℕ, ◌+◌, ◌-◌, ◌^◌, ◌<◌, ◌≤◌, Bool, true, false, not, ◌||◌, cond, if◌then◌else◌, List, [], ◌∷◌, ◌++◌, map, sum, Option, Some, None, refl, sym, ap, subst, ◌∙◌, arith, ⊎_elim, append-nil}
use Rattle.std.specs.List.{flat_map}
use Rattle.std.proofs.lemmas.Bool.{cases_Bool, true≢false}
use Rattle.std.proofs.lemmas.List.Folds.{list_any-append}
use Rattle.atom_record.specs.Equal.{metric_key_exact}
use Rattle.atom_record.specs.declared.value.MetricKey.{MetricKey}
use Rattle.bucket_meaning.specs.Guard.{is_among, admitted, of_key}
use Rattle.bucket_meaning.specs.Rows.{row_of, rows_of}
use Rattle.metric_kinds.specs.Keys.{is_same_key}
use Rattle.metric_kinds.specs.Runs.{Active, newly, runs, run_keys, run_keys_after, active_time, last_keys, last_turn, DontFall, AreDistinct}
use Rattle.metric_kinds.specs.Durations.{sum_kind, duration_row}
use Rattle.metric_kinds.proofs.RunsLemmas.{next_at, sum_of_runs}
use Rattle.duration_metric.specs.declared.sum.Span.{Span}
use Rattle.duration_metric.specs.SumStands.{span_at, span_from, no_span, span_of, span_time, spans, span_row}
use Rattle.duration_metric.specs.SumSteps.{row_at, HasFresh}

-- the time since a run that is under way began
abbrev open_time : Option ℕ → ℕ → ℕ
open_time None at = 0
open_time (Some since) at = at - since

-- it began by then, if one is under way
abbrev BeganBy : Option ℕ → ℕ → Type 0
BeganBy None from = Unit {0}
BeganBy (Some since) from = since ≤ from

-- A span is of times before this one.
record IsBefore (total : ℕ) (since : Option ℕ) (from : ℕ) : Type 0 where
  within : total + open_time since from ≤ from
  began : BeganBy since from

-- a span with one list more, where what comes after it is known
span_step : (total : ℕ) (since : Option ℕ) (is_active : Bool) (from at next rest : ℕ) (final : ℕ → Option ℕ → ℕ)
    → IsBefore total since from → from ≤ at → at ≤ next → at < 2 ^ 64
    → ((t : ℕ) (s : Option ℕ) → IsBefore t s at → final t s ≡ t + open_time s next + rest)
    → final (span_at at is_active (record { sum = total; since = since })).sum
    (span_at at is_active (record { sum = total; since = since })).since
    ≡ total + open_time since at + ((if is_active then next - at else 0) + rest)
span_step total None true from at next rest final is later last fits ends =
    ends total (Some at) (record { within = omega (arith, is.within, later); began = omega arith }) ∙ omega arith
span_step total None false from at next rest final is later last fits ends =
    ends total None (record { within = omega (arith, is.within, later); began = tt }) ∙ omega arith
span_step total (Some since) true from at next rest final is later last fits ends =
    ends total (Some since)
    (record { within = omega (arith, is.within, is.began, later); began = omega (arith, is.began, later) })
    ∙ omega (arith, is.began, later, last)
span_step total (Some since) false from at next rest final is later last fits ends =
    let whole : (span_at at false (record { sum = total; since = Some since })).sum ≡ total + (at - since) =
    omega (arith, is.within, is.began, later, fits) in
    ap (λ n. final n None) whole
    ∙ ends (total + (at - since)) None (record { within = omega (arith, is.within, is.began, later); began = tt })
    ∙ omega arith

next-after : (came : List (Active MetricKey)) (from end : ℕ) → DontFall from came → last_turn from came ≤ end
    → from ≤ next_at came end
next-after [] from end rises ends = ends
next-after (now ∷ later) from end rises ends = rises.0

turn-after : (came : List (Active MetricKey)) (from : ℕ) → DontFall from came → from ≤ last_turn from came
turn-after [] from rises = omega arith
turn-after (now ∷ later) from rises = omega (arith, rises.0, turn-after later now.at rises.1)

-- the time of a span up to an end: what it had, and for how long its key is active after that
span_time-from : (key : MetricKey) (total : ℕ) (since : Option ℕ) (came : List (Active MetricKey)) (from end : ℕ)
    → IsBefore total since from → DontFall from came → last_turn from came ≤ end → end < 2 ^ 64
    → span_time end (span_from key (record { sum = total; since = since }) came)
    ≡ total + open_time since (next_at came end) + active_time is_same_key key came end
span_time-from key total None [] from end is rises ends fits = omega arith
span_time-from key total (Some since) [] from end is rises ends fits = omega (arith, is.within, is.began, ends, fits)
span_time-from key total since (now ∷ later) from end is rises ends fits =
    let turned = turn-after later now.at rises.1 in
    span_step total since (is_among is_same_key key now.keys) from now.at (next_at later end)
    (active_time is_same_key key later end)
    (λ t s. span_time end (span_from key (record { sum = t; since = s }) later))
    is rises.0 (next-after later now.at end rises.1 ends) (omega (arith, turned, ends, fits))
    (λ t s before. span_time-from key t s later now.at end before rises.1 ends fits)

module _ (came : List (Active MetricKey)) (start end : ℕ) (rises : DontFall start came)
    (ends : last_turn start came ≤ end) (fits : end < 2 ^ 64) (distinct : AreDistinct is_same_key came) where
  -- a key's span is the sum of its runs
  pub span_total : (key : MetricKey)
      → span_time end (span_of came key) ≡ sum (of_key is_same_key key (runs is_same_key came end))
  span_total key =
      let spent = span_time-from key 0 None came start end (record { within = omega arith; began = tt }) rises ends
      fits in
      let summed = sum_of_runs is_same_key metric_key_exact key came start end rises ends distinct in
      omega (arith, spent, summed)

  rows_each : (bound : ℕ) (keys : List MetricKey)
      → flat_map (span_row start end) (map (λ key. (key, span_of came key)) keys)
      ≡ flat_map (row_of sum_kind bound (record { start = start; end = end; came = came })) keys
  rows_each bound [] = refl
  rows_each bound (key ∷ keys) =
      ap (λ rows. rows ++ flat_map (span_row start end) (map (λ key. (key, span_of came key)) keys))
      (ap (duration_row start end key) (span_total key))
      ∙ ap (λ rows. row_of sum_kind bound (record { start = start; end = end; came = came }) key ++ rows)
      (rows_each bound keys)

  -- the rows of the spans are those of the part
  pub part_rows : (bound : ℕ)
      → flat_map (span_row start end) (spans bound came)
      ≡ rows_of sum_kind bound (record { start = start; end = end; came = came })
  part_rows bound =
      rows_each bound (admitted is_same_key bound (run_keys is_same_key came))
      ∙ sym (append-nil (flat_map (row_of sum_kind bound (record { start = start; end = end; came = came }))
      (admitted is_same_key bound (run_keys is_same_key came))))

-- a span with one list more
pub span_from-push : (key : MetricKey) (span : Span) (came : List (Active MetricKey)) (now : Active MetricKey)
    → span_from key span (came ++ now ∷ [])
    ≡ span_at now.at (is_among is_same_key key now.keys) (span_from key span came)
span_from-push key span [] now = refl
span_from-push key span (first ∷ came) now =
    span_from-push key (span_at first.at (is_among is_same_key key first.keys) span) came now

-- all spans with one list more
pub spans-step : (came : List (Active MetricKey)) (now : Active MetricKey) (keys : List MetricKey)
    → map (row_at now.keys now.at) (map (λ key. (key, span_of came key)) keys)
    ≡ map (λ key. (key, span_of (came ++ now ∷ []) key)) keys
spans-step came now [] = refl
spans-step came now (key ∷ keys) =
    ap (λ (span : Span). (key, span) ∷ map (row_at now.keys now.at) (map (λ key. (key, span_of came key)) keys))
    (sym (span_from-push key no_span came now))
    ∙ ap (λ rows. (key, span_of (came ++ now ∷ []) key) ∷ rows) (spans-step came now keys)

-- taken to a second time with the same key active or not, a span stays
pub span_again : (at later : ℕ) (is_active : Bool) (total : ℕ) (since : Option ℕ)
    → span_at later is_active (span_at at is_active (record { sum = total; since = since }))
    ≡ span_at at is_active (record { sum = total; since = since })
span_again at later true total None = refl
span_again at later true total (Some since) = refl
span_again at later false total None = refl
span_again at later false total (Some since) = refl

pub span_steady : (key : MetricKey) (later : ℕ) (before : List MetricKey) (span : Span) (came : List (Active MetricKey))
    → span_at later (is_among is_same_key key before) span ≡ span
    → span_at later (is_among is_same_key key (last_keys before came)) (span_from key span came)
    ≡ span_from key span came
span_steady key later before span [] steady = steady
span_steady key later before span (now ∷ came) steady =
    span_steady key later now.keys (span_at now.at (is_among is_same_key key now.keys) span) came
    (span_again now.at later (is_among is_same_key key now.keys) span.sum span.since)

-- where the same keys stay active, all spans stay
pub spans-steady : (came : List (Active MetricKey)) (at : ℕ) (active : List MetricKey) (keys : List MetricKey)
    → last_keys [] came ≡ active
    → map (row_at active at) (map (λ key. (key, span_of came key)) keys) ≡ map (λ key. (key, span_of came key)) keys
spans-steady came at active [] is = refl
spans-steady came at active (key ∷ keys) is =
    ap (λ (span : Span). (key, span) ∷ map (row_at active at) (map (λ key. (key, span_of came key)) keys))
    (ap (λ ks. span_at at (is_among is_same_key key ks) (span_of came key)) (sym is)
    ∙ span_steady key at [] no_span came refl)
    ∙ ap (λ rows. (key, span_of came key) ∷ rows) (spans-steady came at active keys is)

-- of two tests the first fails, so both do where the second does
pub first_fails : (first second : Bool) → (first || second) ≡ false → first ≡ false
first_fails true second none = none
first_fails false second none = refl

pub second_fails : (first second : Bool) → (first || second) ≡ false → second ≡ false
second_fails true second none = absurd (true≢false none)
second_fails false second none = none

-- a key that isn't among some isn't the same as one of them
not_same : (key other : MetricKey) (before : List MetricKey) → is_among is_same_key key before ≡ false
    → is_among is_same_key other before ≡ true → is_same_key other key ≡ false
not_same key other before absent there = ⊎_elim
    (λ (alike : is_same_key other key ≡ true).
    absurd (true≢false (sym (subst (λ k. is_among is_same_key k before ≡ true) ((metric_key_exact other key).0 alike)
    there) ∙ absent)))
    (λ (differs : is_same_key other key ≡ false). differs)
    (cases_Bool (is_same_key other key))

-- a key that wasn't active before comes anew where it is active now
pub newly_among : (key : MetricKey) (before keys : List MetricKey) → is_among is_same_key key before ≡ false
    → is_among is_same_key key (newly is_same_key before keys) ≡ is_among is_same_key key keys
newly_among key before [] absent = refl
newly_among key before (other ∷ keys) absent = ⊎_elim
    (λ (there : is_among is_same_key other before ≡ true).
    ap (λ b. is_among is_same_key key (cond (not b) (other ∷ newly is_same_key before keys)
    (newly is_same_key before keys))) there
    ∙ newly_among key before keys absent
    ∙ sym (ap (λ b. b || is_among is_same_key key keys) (not_same key other before absent there)))
    (λ (fresh : is_among is_same_key other before ≡ false).
    ap (λ b. is_among is_same_key key (cond (not b) (other ∷ newly is_same_key before keys)
    (newly is_same_key before keys))) fresh
    ∙ ap (λ b. is_same_key other key || b) (newly_among key before keys absent))
    (cases_Bool (is_among is_same_key other before))

-- a key that has no run was never active
never_active : (key : MetricKey) (before : List MetricKey) (came : List (Active MetricKey))
    → is_among is_same_key key (run_keys_after is_same_key before came) ≡ false
    → is_among is_same_key key before ≡ false → span_from key no_span came ≡ no_span
never_active key before [] none absent = refl
never_active key before (now ∷ later) none absent =
    let fresh = is_among is_same_key key (newly is_same_key before now.keys) in
    let others = is_among is_same_key key (run_keys_after is_same_key now.keys later) in
    let split : (fresh || others) ≡ false =
    sym (list_any-append (λ other. is_same_key other key) (newly is_same_key before now.keys)
    (run_keys_after is_same_key now.keys later)) ∙ none in
    let here : is_among is_same_key key now.keys ≡ false =
    sym (newly_among key before now.keys absent) ∙ first_fails fresh others split in
    ap (λ b. span_from key (span_at now.at b no_span) later) here
    ∙ never_active key now.keys later (second_fails fresh others split) here

-- so its span begins where it comes
pub spans_fresh : (came : List (Active MetricKey)) (now : Active MetricKey) (before : List MetricKey)
    → HasFresh (span_of (came ++ now ∷ [])) (run_keys is_same_key came) before now.keys now.at
spans_fresh came now before key unseen active fresh =
    span_from-push key no_span came now
    ∙ ap (λ b. span_at now.at b (span_of came key)) active
    ∙ ap (span_at now.at true) (never_active key [] came unseen refl)
