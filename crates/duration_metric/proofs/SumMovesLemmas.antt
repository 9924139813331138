-- What a call makes of a producer of sums: one that an event makes, and what is common to all.
use Rattle.std.proofs.Common.{◌≡◌, ℕ, ◌+◌, ◌-◌, ◌≤◌, nat_lt, List, [], ◌∷◌, ◌++◌, Result, Ok, Err, OnOk, refl, sym, ap, subst, ◌∙◌, arith}
use Rattle.std.proofs.lemmas.Option.{none-some}
use Rattle.atom_record.specs.declared.value.MetricKey.{MetricKey}
use Rattle.bucket_meaning.specs.Guard.{is_among}
use Rattle.bucket_meaning.specs.Marks.{Books}
use Rattle.bucket_meaning.specs.Meaning.{marks_on, books_by}
use Rattle.bucket_meaning.specs.Rows.{drops}
use Rattle.bucket_meaning.proofs.MeaningLemmas.{books_by-push}
use Rattle.config_types.specs.declared.parameters.PredSpec.{PredSpec}
use Rattle.predicate_state.specs.PredicateStates.{PredicateState}
use Rattle.predicate_state.specs.PredicateTable.{LeafKey}
use Rattle.metric_producer.specs.Calls.{Got, Standing, after_call, first_standing, standing_of}
use Rattle.metric_producer.specs.Rules.{IsAdmitted}
use Rattle.metric_producer.specs.Moves.{Moves}
use Rattle.metric_producer.specs.Collecting.{call_marks, calls_mean}
use Rattle.metric_producer.proofs.RuleLemmas.{standing_from-append}
use Rattle.metric_kinds.specs.Keys.{is_same_key}
use Rattle.metric_kinds.specs.Runs.{Active}
use Rattle.metric_kinds.specs.Durations.{sum_kind}
use Rattle.duration_metric.specs.declared.change.InnerEvent.{InnerEvent}
use Rattle.duration_metric.specs.declared.inner.InnerTable.{InnerTable}
use Rattle.duration_metric.specs.InnerKeys.{DurationParams, DurationCall, duration_demands, inner_state}
use Rattle.duration_metric.specs.InnerStands.{TakesEvent}
use Rattle.duration_metric.specs.SumCalls.{active_told, active_since, sum_collecting}
use Rattle.duration_metric.specs.Tallies.{counted_in, KeepsCounts, KeepsSteady}
use Rattle.duration_metric.specs.SumParts.{Summing}
use Rattle.duration_metric.specs.SumStands.{HoldsSums, HasSums, sum_law}
use Rattle.duration_metric.proofs.KnownLemmas.{inner_state-got}
use Rattle.duration_metric.proofs.ActiveLemmas.{since-other}
use Rattle.duration_metric.proofs.InnerBoundLemmas.{lost_books, drops_grow, drops_fit, same_drops}

-- how far one call more comes
pub standing-push : (params : DurationParams) (calls : List DurationCall) (call : DurationCall)
    → standing_of (duration_demands params) (calls ++ call ∷ [])
    ≡ after_call (duration_demands params) (standing_of (duration_demands params) calls) call
standing-push params calls call =
    standing_from-append (duration_demands params) (first_standing (duration_demands params)) calls (call ∷ [])

-- where an object holds the books after the marks of a call, it stands for the calls with this one
pub moves_by : (old new : Summing) (call : DurationCall)
    → ((params : DurationParams) (calls : List DurationCall) (books : Books (Active MetricKey))
    → HasSums old params calls books → IsAdmitted (duration_demands params) calls call
    → HasSums new params (calls ++ call ∷ [])
    (marks_on (calls_mean sum_collecting) params books (call_marks sum_collecting params calls call)))
    → Moves sum_law old new call
moves_by old new call step params calls has may =
    subst (HasSums new params (calls ++ call ∷ []))
    (sym (books_by-push (calls_mean sum_collecting) params calls call))
    (step params calls (books_by (calls_mean sum_collecting) params calls) has may)

-- what a producer holds beside its inner keys stays, whatever these are, and with more drops
pub holds_on : (it : Summing) (inner : InnerTable) (bound : ℕ) (keys : List MetricKey) (last at others n : ℕ)
    (books : Books (Active MetricKey)) → last ≤ at → HoldsSums it bound keys last others books
    → HoldsSums (record it { inner = inner }) bound keys at others (record books { dropped = n })
holds_on it inner bound keys last at others n books later holds = record {
  bound_is = holds.bound_is;
  start = holds.start;
  came_last = holds.came_last;
  few = holds.few;
  once = holds.once;
  rises = holds.rises;
  so_far = omega (arith, holds.so_far, later);
  all_once = holds.all_once;
  table = holds.table;
  dropped = holds.dropped;
  kept = holds.kept;
  missing = holds.missing;
}

-- for which keys inner keys are counted stays with another call
pub counted_on : (inner : InnerTable) (spec : PredSpec) (calls : List DurationCall) (call : DurationCall)
    → active_told spec calls call ≡ []
    → ((key : MetricKey) → is_among is_same_key key (active_since spec calls) ≡ nat_lt 0 (counted_in inner key))
    → (key : MetricKey)
    → is_among is_same_key key (active_since spec (calls ++ call ∷ [])) ≡ nat_lt 0 (counted_in inner key)
counted_on inner spec calls call none counted key =
    ap (is_among is_same_key key) (since-other spec calls call none) ∙ counted key

-- what three facts of a success make
pub on_ok_three : {T E : Type 0} {A B C D : Type 0} (result : Result T E) → (A → B → C → D) → OnOk result A
    → OnOk result B → OnOk result C → OnOk result D
on_ok_three (Ok x) f one other last = f one other last
on_ok_three (Err e) f one other last = tt

-- an event came
pub got : (it : Summing) (inner : InnerTable) (at : ℕ) (event : InnerEvent)
    → TakesEvent it.inner inner event → KeepsCounts it.inner inner → KeepsSteady it.inner inner
    → Moves sum_law it (record it { inner = inner }) (Got at event)
got it inner at event takes counts steady = moves_by it (record it { inner = inner }) (Got at event)
    (λ params calls books has may.
    let spec = params.spec in
    let demands = duration_demands params in
    let call : DurationCall = Got at event in
    let now = calls ++ call ∷ [] in
    let stands = takes spec calls at has.inner in
    let was = same_drops it.inner spec calls has.inner in
    let is = same_drops inner spec now stands in
    let more = (inner_state spec now).dropped - (inner_state spec calls).dropped in
    let grows : (inner_state spec calls).dropped ≤ (inner_state spec now).dropped =
    subst (λ (s : PredicateState LeafKey). (inner_state spec calls).dropped ≤ s.dropped)
    (sym (inner_state-got spec calls at event))
    (drops_grow spec (inner_state spec calls) event.event event.key (drops_fit spec calls)).0 in
    let standing = standing-push params calls call in
    subst (HasSums (record it { inner = inner }) params now)
    (sym (lost_books (drops sum_kind spec.bound) more books))
    (record {
      inner = stands;
      steady = steady (has.settled may.0.settled).0 has.steady;
      counted = counted_on inner spec calls call refl (λ key. has.counted key ∙ ap (nat_lt 0) (sym (counts key)));
      settled = λ none. absurd (none-some at (sym none ∙ ap (λ (s : Standing). s.owed) standing));
      others = has.others;
      reported = omega (arith, was, is, grows, has.reported);
      dropped = omega (arith, was, is, grows, has.reported, has.dropped);
      in_bucket = λ sized. subst (λ (s : Standing). s.last ≤ s.next_end) (sym standing) (may.0.timely.in_bucket sized);
      holds = subst (λ (s : Standing). HoldsSums (record it { inner = inner }) spec.bound
          (active_since spec now) s.last has.others (record books { dropped = books.dropped + more })) (sym standing)
          (subst (λ ks. HoldsSums (record it { inner = inner }) spec.bound ks at has.others
          (record books { dropped = books.dropped + more })) (sym (since-other spec calls call refl))
          (holds_on it inner spec.bound (active_since spec calls) (standing_of demands calls).last at has.others
          (books.dropped + more) books may.0.timely.not_before has.holds));
    }))
