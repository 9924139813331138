-- What a change of the active keys makes of the spans and of the books.
use Rattle.std.proofs.Common.{◌≡◌, ℕ, ◌+◌, ◌-◌, ◌≤◌, true, false, if◌then◌else◌, List, [], ◌∷◌, ◌++◌, map, length, refl, sym, ap, subst, ◌∙◌, arith, ⊎_elim, append-nil}
use Rattle.std.specs.List.{IsDistinct}
use Rattle.std.specs.Cmp.Lexicographic.{pointwise, pointwise_decides}
use Rattle.std.proofs.lemmas.Bool.{cases_Bool, true≢false}
use Rattle.atom_record.specs.Equal.{metric_key_exact}
use Rattle.atom_record.specs.declared.value.MetricKey.{MetricKey}
use Rattle.bucket_meaning.specs.Guard.{is_among, admitted, dropped}
use Rattle.bucket_meaning.specs.Kept.{count_in_u64}
use Rattle.bucket_meaning.specs.Marks.{Came, Books, after, books_from}
use Rattle.bucket_meaning.specs.Rows.{drops}
use Rattle.dim_table.specs.Table.{Table}
use Rattle.metric_kinds.specs.Keys.{is_same_key}
use Rattle.metric_kinds.specs.Runs.{Active, newly, run_keys, last_keys, last_turn, DontFall, AreDistinct}
use Rattle.metric_kinds.specs.Durations.{sum_kind, turned}
use Rattle.metric_kinds.proofs.RunsLemmas.{run_keys-push}
use Rattle.duration_metric.specs.declared.sum.Span.{Span}
use Rattle.duration_metric.specs.SumParts.{Summing}
use Rattle.duration_metric.specs.SumStands.{span_of, spans, HoldsSums}
use Rattle.duration_metric.specs.SumSteps.{row_at, HasSpans, BeginsAll}
use Rattle.duration_metric.proofs.SpanLemmas.{spans-step, spans-steady, spans_fresh}
use Rattle.duration_metric.proofs.BeginLemmas.{newly-same}
use Rattle.duration_metric.proofs.ChangedLemmas.{StepsAll}

-- One list more.
rises-push : (from : ℕ) (came : List (Active MetricKey)) (now : Active MetricKey) → DontFall from came
    → last_turn from came ≤ now.at → DontFall from (came ++ now ∷ [])
rises-push from [] now rises later = (later, tt)
rises-push from (first ∷ came) now rises later = (rises.0, rises-push first.at came now rises.1 later)

turn-push : (from : ℕ) (came : List (Active MetricKey)) (now : Active MetricKey)
    → last_turn from (came ++ now ∷ []) ≡ now.at
turn-push from [] now = refl
turn-push from (first ∷ came) now = turn-push first.at came now

keys-push : (before : List MetricKey) (came : List (Active MetricKey)) (now : Active MetricKey)
    → last_keys before (came ++ now ∷ []) ≡ now.keys
keys-push before [] now = refl
keys-push before (first ∷ came) now = keys-push first.keys came now

once-push : (came : List (Active MetricKey)) (now : Active MetricKey) → AreDistinct is_same_key came
    → IsDistinct is_same_key now.keys → AreDistinct is_same_key (came ++ now ∷ [])
once-push [] now all one = (one, tt)
once-push (first ∷ came) now all one = (all.0, once-push came now all.1 one)

-- What a change of the active keys makes of a producer: so many more are dropped.
pub record Turned (it : Summing) (bound : ℕ) (active : List MetricKey) (at others : ℕ)
    (books new : Books (Active MetricKey)) : Type 0 where
  pub more : ℕ
  pub holds : HoldsSums it bound active at (others + more) new
  pub counted : new.dropped ≡ books.dropped + more

module _ (it : Summing) (active : List MetricKey) (mid new : Table MetricKey Span) (at bound : ℕ)
    (keys : List MetricKey) (last others : ℕ) (books : Books (Active MetricKey))
    (holds : HoldsSums it bound keys last others books) (later : last ≤ at)
    (steps : StepsAll it.table mid (λ key. is_among is_same_key key active) at)
    (begins : BeginsAll mid new keys active at) (few : length active ≤ bound) (once : IsDistinct is_same_key active)
  where
    abbrev came : List (Active MetricKey)
    came = books.came

    abbrev now : Active MetricKey
    now = record { at = at; keys = active }

    abbrev turned_it : Summing
    turned_it = record it { table = new }

    -- the table after the step, by any spans that are the old ones taken to the time
    mid_has : (span : MetricKey → Span)
        → map (row_at active at) (spans bound came)
        ≡ map (λ key. (key, span key)) (admitted is_same_key bound (run_keys is_same_key came))
        → HasSpans mid bound span (run_keys is_same_key came) others
    mid_has span is = record {
      bound_is = ap (λ (t : Table MetricKey Span). t.bound) steps ∙ holds.bound_is;
      rows = ap (λ (t : Table MetricKey Span). t.rows) steps ∙ ap (map (row_at active at)) holds.table ∙ is;
      dropped_are = ap (λ (t : Table MetricKey Span). t.dropped) steps ∙ holds.dropped;
    }

    -- the same keys stay active
    turned_same : keys ≡ active → Turned turned_it bound active at others books books
    turned_same same =
        let seen = run_keys is_same_key came in
        let begun = begins bound (span_of came) seen others
        (λ key unseen there absent. absurd (true≢false (sym (subst (λ ks. is_among is_same_key key ks ≡ true) (sym same)
        there) ∙ absent)))
        (mid_has (span_of came)
        (spans-steady came at active (admitted is_same_key bound seen) (holds.came_last ∙ same))) in
        let none : newly is_same_key keys active ≡ [] =
        ap (λ ks. newly is_same_key ks active) same ∙ newly-same active in
        let stays : seen ++ newly is_same_key keys active ≡ seen = ap (λ l. seen ++ l) none ∙ append-nil seen in
        let no_more : begun.more ≡ 0 =
        omega (arith, begun.counted, ap (dropped is_same_key bound) stays) in
        record {
          more = 0;
          holds = record {
            bound_is = begun.has.bound_is;
            start = holds.start;
            came_last = holds.came_last ∙ same;
            few = few;
            once = once;
            rises = holds.rises;
            so_far = omega (arith, holds.so_far, later);
            all_once = holds.all_once;
            table = begun.has.rows
                ∙ ap (λ ks. map (λ key. (key, span_of came key)) (admitted is_same_key bound ks)) stays;
            dropped = begun.has.dropped_are ∙ ap (λ n. count_in_u64 (others + n)) no_more;
            kept = holds.kept;
            missing = holds.missing;
          };
          counted = omega arith;
        }

    -- other keys are active, or in another order
    turned_other : Turned turned_it bound active at others books (after (drops sum_kind bound) books (Came now))
    turned_other =
        let seen = run_keys is_same_key came in
        let begun = begins bound (span_of (came ++ now ∷ [])) seen others (spans_fresh came now keys)
        (mid_has (span_of (came ++ now ∷ [])) (spans-step came now (admitted is_same_key bound seen))) in
        let all : run_keys is_same_key (came ++ now ∷ []) ≡ seen ++ newly is_same_key keys active =
        run_keys-push is_same_key [] came now ∙ ap (λ ks. seen ++ newly is_same_key ks active) holds.came_last in
        let lost : drops sum_kind bound came now ≡ begun.more =
        ap (λ ks. dropped is_same_key bound ks - dropped is_same_key bound seen) all
        ∙ omega (arith, begun.counted) in
        record {
          more = begun.more;
          holds = record {
            bound_is = begun.has.bound_is;
            start = holds.start;
            came_last = keys-push [] came now;
            few = few;
            once = once;
            rises = rises-push books.start came now holds.rises (omega (arith, holds.so_far, later));
            so_far = omega (arith, turn-push books.start came now);
            all_once = once-push came now holds.all_once once;
            table = begun.has.rows
                ∙ ap (λ ks. map (λ key. (key, span_of (came ++ now ∷ []) key)) (admitted is_same_key bound ks))
                (sym all);
            dropped = begun.has.dropped_are;
            kept = holds.kept;
            missing = holds.missing;
          };
          counted = ap (λ n. books.dropped + n) lost;
        }

    -- what a condition brings
    pub turned_by : Turned turned_it bound active at others books
        (books_from (drops sum_kind bound) books (turned at keys active))
    turned_by = ⊎_elim
        (λ (same : pointwise is_same_key keys active ≡ true).
        subst (λ b. Turned turned_it bound active at others books
        (books_from (drops sum_kind bound) books (if b then [] else Came now ∷ []))) (sym same)
        (turned_same ((pointwise_decides metric_key_exact keys active).0 same)))
        (λ (other : pointwise is_same_key keys active ≡ false).
        subst (λ b. Turned turned_it bound active at others books
        (books_from (drops sum_kind bound) books (if b then [] else Came now ∷ []))) (sym other) turned_other)
        (cases_Bool (pointwise is_same_key keys active))
