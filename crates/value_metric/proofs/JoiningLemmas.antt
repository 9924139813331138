-- Two crossings with nothing between them, for producers of pushed and of pulled values.
use Rattle.std.proofs.Common.{◌≡◌, ◌+◌, Option, None, List, [], ◌∷◌, ◌++◌, refl, sym, ap, subst, ◌∙◌, append_assoc}
use Rattle.std.specs.List.{flat_map}
use Rattle.std.specs.Option.{option_map}
use Rattle.bucket_clock.specs.declared.crossings.Crossings.{Crossings}
use Rattle.bucket_meaning.specs.Ends.{ends_from}
use Rattle.metric_producer.specs.Calls.{Crossed}
use Rattle.metric_producer.specs.Joining.{Joins}
use Rattle.metric_producer.proofs.JoiningLemmas.{BeginsAnew, books_joined, booked_joins, none_anew, same_joined}
use Rattle.metric_kinds.specs.Diffs.{KeyedInts, interval_marks}
use Rattle.metric_kinds.specs.Intervals.{ended_with, open_after}
use Rattle.value_metric.specs.PushedValues.{pushed_collecting}
use Rattle.value_metric.specs.PushedStands.{pushed_form, pushed_law}
use Rattle.value_metric.specs.PulledValues.{PulledValueParams, PulledValueCall, last_found, is_told_true, seen_after_calls}
use Rattle.value_metric.specs.CallIntervals.{open_by_calls}
use Rattle.value_metric.specs.PulledCollecting.{pulled_collecting}
use Rattle.value_metric.specs.PulledStands.{pulled_form, sums_found, pulled_law}
use Rattle.value_metric.specs.ValueBooksStand.{HoldsBooks}
use Rattle.value_metric.proofs.CallIntervalsLemmas.{last_found-push, is_told_true-push, open-begins}

-- a producer of pushed values has no more than its books
pub pushed_join : Joins pushed_law
pushed_join =
    booked_joins pushed_collecting (λ it params books. HoldsBooks it.books (pushed_form params) books)
    (λ params calls crossings. none_anew)

-- a crossing tells no snapshot and no condition
crossed_found : (calls : List PulledValueCall) (crossings : Crossings)
    → last_found (calls ++ Crossed crossings ∷ []) ≡ last_found calls
crossed_found calls crossings = last_found-push calls (Crossed crossings)

crossed_truth : (calls : List PulledValueCall) (crossings : Crossings)
    → is_told_true (calls ++ Crossed crossings ∷ []) ≡ is_told_true calls
crossed_truth calls crossings = is_told_true-push calls (Crossed crossings)

-- the interval that begins where a part begins, and is open where the condition is true
abbrev begins_with_part : List PulledValueCall → Option (Option KeyedInts)
begins_with_part calls = open_after None (seen_after_calls calls)

crossed_begins : (calls : List PulledValueCall) (crossings : Crossings)
    → begins_with_part (calls ++ Crossed crossings ∷ []) ≡ begins_with_part calls
crossed_begins calls crossings =
    ap (λ holds. open_after None (record { holds = holds; found = last_found (calls ++ Crossed crossings ∷ []) }))
    (crossed_truth calls crossings)
    ∙ ap (λ found. open_after None (record { holds = is_told_true calls; found = found }))
    (crossed_found calls crossings)

-- after a crossing that interval is the open one
crossed_open : (calls : List PulledValueCall) (crossings : Crossings)
    → open_by_calls (calls ++ Crossed crossings ∷ []) ≡ begins_with_part calls
crossed_open calls crossings = open-begins calls (Crossed crossings) crossings.first_end
    (ends_from (crossings.first_end + crossings.size) crossings.size crossings.full_buckets) refl refl

-- so after both crossings that is open which is open after the whole
open_joined : (calls : List PulledValueCall) (one other whole : Crossings)
    → open_by_calls (calls ++ Crossed whole ∷ []) ≡ open_by_calls (calls ++ Crossed one ∷ Crossed other ∷ [])
open_joined calls one other whole =
    crossed_open calls whole ∙ sym (crossed_begins calls one) ∙ sym (crossed_open (calls ++ Crossed one ∷ []) other)
    ∙ ap open_by_calls (append_assoc calls (Crossed one ∷ []) (Crossed other ∷ []))

-- and what ends at a boundary after a crossing is what ends there in a part in which nothing came
pulled_anew : (params : PulledValueParams) → BeginsAnew pulled_collecting params
pulled_anew params calls crossings =
    let now = calls ++ Crossed crossings ∷ [] in
    let marks = flat_map (interval_marks params.spec) in
    let found = crossed_found calls crossings in
    record {
      closing = λ at. ap (λ going. marks (ended_with going (last_found now))) (crossed_open calls crossings)
          ∙ ap (λ last. marks (ended_with (begins_with_part calls) last)) found;
      closing_again = λ at.
          ap (λ going. marks (ended_with going (last_found now))) (crossed_begins calls crossings)
          ∙ ap (λ last. marks (ended_with (begins_with_part calls) last)) found;
      opening = λ at. refl;
    }

-- a producer of pulled values has its books, and what was told last
pub pulled_join : Joins pulled_law
pulled_join it params calls one other whole made stands = record {
  spec = stands.spec;
  held = subst (HoldsBooks it.books (pulled_form params))
      (books_joined pulled_collecting params calls one other whole made (pulled_anew params)) stands.held;
  snapshots = record {
    last = stands.snapshots.last ∙ ap sums_found (same_joined last_found crossed_found calls one other whole);
    begun = stands.snapshots.begun ∙ ap (option_map sums_found) (open_joined calls one other whole);
  };
}
