-- A producer of sums holds its books through a cut, a crossing and a report, and begins with none.
use Rattle.std.proofs.Common.{◌≡◌, ℕ, suc, ◌+◌, ◌*◌, ◌^◌, ◌<◌, ◌≤◌, nat_lt, [], ◌∷◌, ◌++◌, map, slice_get, refl, sym, ap, subst, ◌∙◌, arith, append-nil}
use Rattle.std.specs.List.{flat_map, IsDistinct}
use Rattle.std.specs.Map.{keys_of}
use Rattle.std.proofs.lemmas.Option.{none-some}
use Rattle.std.proofs.Math.Seq.{take-nil}
use Rattle.atom_record.specs.declared.value.MetricKey.{MetricKey}
use Rattle.bucket_clock.specs.declared.crossings.Crossings.{Crossings}
use Rattle.bucket_clock.specs.Clock.{last_end}
use Rattle.bucket_meaning.specs.Ends.{ends_from}
use Rattle.bucket_meaning.specs.Guard.{firsts}
use Rattle.bucket_meaning.specs.Marks.{books_from, boundary_marks}
use Rattle.bucket_meaning.specs.Rows.{drops}
use Rattle.dim_table.specs.Table.{Table}
use Rattle.kept_rows.specs.KeptRows.{Keeping, IsKept, AddsRows}
use Rattle.metric_producer.specs.declared.row.Row.{Row}
use Rattle.metric_producer.specs.Calls.{Crossed, CutAt, Took, Standing, standing_of}
use Rattle.metric_producer.specs.Moves.{Moves}
use Rattle.metric_producer.proofs.RuleLemmas.{answer_fits}
use Rattle.metric_kinds.specs.Keys.{is_same_key}
use Rattle.metric_kinds.specs.Counts.{row_weight}
use Rattle.metric_kinds.specs.Durations.{sum_kind, active_edges}
use Rattle.duration_metric.specs.declared.inner.InnerTable.{InnerTable}
use Rattle.duration_metric.specs.declared.sum.Span.{Span}
use Rattle.duration_metric.specs.InnerKeys.{DurationParams, DurationCall, duration_demands}
use Rattle.duration_metric.specs.InnerStands.{InnersStandFor}
use Rattle.duration_metric.specs.SumCalls.{active_since}
use Rattle.duration_metric.specs.Tallies.{how_often, row_out, row_tallied, counted_in, AreSteady, IsSettled}
use Rattle.duration_metric.specs.SumParts.{Summing}
use Rattle.duration_metric.specs.SumStands.{span_of, whole_rows, HoldsSums, SumStandsFor, sum_law}
use Rattle.duration_metric.specs.SumSteps.{active_in, BeginsAll, ClosesRows, Opens}
use Rattle.duration_metric.proofs.KnownLemmas.{takes_other}
use Rattle.duration_metric.proofs.ActiveLemmas.{since-other}
use Rattle.duration_metric.proofs.InnerBoundLemmas.{same_drops}
use Rattle.duration_metric.proofs.SumMovesLemmas.{standing-push, moves_by, counted_on}
use Rattle.duration_metric.proofs.SumJumpLemmas.{opened_keys, jumps, jumps_dropped}

-- a report cut the open part
pub cuts : (old mid new : Summing) (at : ℕ) → ClosesRows old mid at → Opens mid new
    → Moves sum_law old new (CutAt at)
cuts old mid new at closes opens = moves_by old new (CutAt at)
    (λ params calls books has may.
    let spec = params.spec in
    let call : DurationCall = CutAt at in
    let now = calls ++ call ∷ [] in
    let keys = active_since spec calls in
    let standing = standing-push params calls call in
    let start : mid.start ≡ at = ap (λ (it : Summing). it.start) closes.same in
    let outs = flat_map row_out mid.inner.keys.rows in
    let are : firsts is_same_key [] outs ≡ keys =
    ap (λ (it : Summing). active_in it.inner.keys.rows) closes.same ∙ (has.settled may.0.settled).1 in
    let inner : new.inner ≡ old.inner = ap (λ (it : Summing). it.inner) (opens.same ∙ ap (λ (it : Summing).
    record it { table = new.table }) closes.same) in
    let reported : new.reported ≡ old.reported = ap (λ (it : Summing). it.reported) (opens.same ∙ ap (λ (it :
    Summing). record it { table = new.table }) closes.same) in
    let begins : BeginsAll mid.table new.table [] outs at =
    subst (BeginsAll mid.table new.table [] outs) start opens.begins in
    let none : AddsRows row_weight mid.kept mid.kept [] =
    λ all is. subst (λ rows. IsKept row_weight rows mid.kept) (sym (append-nil all)) is in
    let stops : at ≡ at + 0 * params.size = omega arith in
    let new_is : record mid { start = at; kept = mid.kept; table = new.table } ≡ new =
    ap (λ s. record mid { start = s; table = new.table }) (sym start) ∙ sym opens.same in
    let holds = jumps old mid mid.kept new.table at params.size 0 at spec.bound keys outs
    (standing_of (duration_demands params) calls).last has.others books stops closes none begins are has.holds
    may.0.timely.not_before may.0.timely.fits may.0.sized in
    let dropped = jumps_dropped old mid mid.kept new.table at params.size 0 at spec.bound keys outs
    (standing_of (duration_demands params) calls).last has.others books stops closes none begins are has.holds
    may.0.timely.not_before may.0.timely.fits may.0.sized in
    let result = books_from (drops sum_kind spec.bound) books
    (boundary_marks (active_edges keys) (ends_from at params.size 1)) in
    record {
      inner = subst (λ (t : InnerTable). InnersStandFor t spec now) (sym inner)
          (takes_other old.inner spec calls call refl (λ key. refl) has.inner);
      steady = subst (λ (t : InnerTable). AreSteady t.touched t.keys.rows) (sym inner) has.steady;
      counted = counted_on new.inner spec calls call refl
          (λ key. has.counted key ∙ ap (λ (t : InnerTable). nat_lt 0 (counted_in t key)) (sym inner));
      settled = λ none. (
        subst IsSettled (sym inner) (has.settled may.0.settled).0,
        ap (λ (t : InnerTable). active_in t.keys.rows) inner ∙ (has.settled may.0.settled).1
            ∙ sym (since-other spec calls call refl),
      );
      others = has.others;
      reported = omega (arith, has.reported, reported, ap (λ (t : InnerTable). t.keys.dropped) inner);
      dropped = omega (
        arith,
        has.reported,
        has.dropped,
        dropped,
        reported,
        ap (λ (t : InnerTable). t.keys.dropped) inner,
      );
      in_bucket = λ sized. subst (λ (s : Standing). s.last ≤ s.next_end) (sym standing) (may.0.timely.in_bucket sized);
      holds = subst (λ (s : Standing). HoldsSums new spec.bound (active_since spec now) s.last has.others result)
          (sym standing)
          (subst (λ ks. HoldsSums new spec.bound ks at has.others result) (sym (since-other spec calls call refl))
          (subst (λ (it : Summing). HoldsSums it spec.bound keys at has.others result) new_is holds));
    })

-- ends of buckets were crossed
pub crosses : (old mid part : Summing) (kept : Keeping (Row ℕ)) (start : ℕ) (crossings : Crossings)
    → ClosesRows old mid crossings.first_end → (last_end crossings < 2 ^ 63 → start ≡ last_end crossings)
    → Opens (record mid { start = start }) part
    → (last_end crossings < 2 ^ 63 → AddsRows row_weight part.kept kept
    (whole_rows crossings.first_end crossings.size crossings.full_buckets (keys_of part.table.rows)))
    → Moves sum_law old (record part { kept = kept }) (Crossed crossings)
crosses old mid part kept start crossings closes is_last opens adds =
    moves_by old (record part { kept = kept }) (Crossed crossings)
    (λ params calls books has may.
    let spec = params.spec in
    let new : Summing = record part { kept = kept } in
    let demands = duration_demands params in
    let call : DurationCall = Crossed crossings in
    let now = calls ++ call ∷ [] in
    let keys = active_since spec calls in
    let first = crossings.first_end in
    let size = crossings.size in
    let n = crossings.full_buckets in
    let fits = answer_fits demands (standing_of demands calls) crossings may.0 in
    let stops : start ≡ first + n * size = is_last fits in
    let standing = standing-push params calls call in
    let outs = flat_map row_out mid.inner.keys.rows in
    let are : firsts is_same_key [] outs ≡ keys =
    ap (λ (it : Summing). active_in it.inner.keys.rows) closes.same ∙ (has.settled may.0.settled).1 in
    let inner : new.inner ≡ old.inner =
    ap (λ (it : Summing). it.inner) opens.same ∙ ap (λ (it : Summing). it.inner) closes.same in
    let reported : new.reported ≡ old.reported =
    ap (λ (it : Summing). it.reported) opens.same ∙ ap (λ (it : Summing). it.reported) closes.same in
    let begins : BeginsAll mid.table part.table [] outs start = opens.begins in
    let table = ap (λ (it : Summing). it.table) closes.same in
    let shown : keys_of part.table.rows ≡ keys =
    opened_keys mid.table part.table spec.bound outs keys start has.others has.holds.few are begins
    (ap (λ (t : Table MetricKey Span). t.rows) table)
    (ap (λ (t : Table MetricKey Span). t.bound) table ∙ has.holds.bound_is)
    (ap (λ (t : Table MetricKey Span). t.dropped) table ∙ has.holds.dropped) in
    let added : AddsRows row_weight mid.kept kept (whole_rows first size n keys) =
    subst (λ ks. AddsRows row_weight mid.kept kept (whole_rows first size n ks)) shown
    (subst (λ k. AddsRows row_weight k kept (whole_rows first size n (keys_of part.table.rows)))
    (ap (λ (it : Summing). it.kept) opens.same) (adds fits)) in
    let sized : 0 < size = omega (arith, may.0.sized, may.0.answer.size) in
    let later : (standing_of demands calls).last ≤ first =
    omega (arith, has.in_bucket may.0.sized, may.0.answer.first_end) in
    let first_fits : first < 2 ^ 63 = omega (arith, fits) in
    let holds = jumps old mid kept part.table first size n start spec.bound keys outs (standing_of demands calls).last
    has.others books stops closes added begins are has.holds later first_fits sized in
    let dropped = jumps_dropped old mid kept part.table first size n start spec.bound keys outs
    (standing_of demands calls).last has.others books stops closes added begins are has.holds later first_fits sized in
    let result = books_from (drops sum_kind spec.bound) books
    (boundary_marks (active_edges keys) (ends_from first size (suc n))) in
    record {
      inner = subst (λ (t : InnerTable). InnersStandFor t spec now) (sym inner)
          (takes_other old.inner spec calls call refl (λ key. refl) has.inner);
      steady = subst (λ (t : InnerTable). AreSteady t.touched t.keys.rows) (sym inner) has.steady;
      counted = counted_on new.inner spec calls call refl
          (λ key. has.counted key ∙ ap (λ (t : InnerTable). nat_lt 0 (counted_in t key)) (sym inner));
      settled = λ none. (
        subst IsSettled (sym inner) (has.settled may.0.settled).0,
        ap (λ (t : InnerTable). active_in t.keys.rows) inner ∙ (has.settled may.0.settled).1
            ∙ sym (since-other spec calls call refl),
      );
      others = has.others;
      reported = omega (arith, has.reported, reported, ap (λ (t : InnerTable). t.keys.dropped) inner);
      dropped = omega (
        arith,
        has.reported,
        has.dropped,
        dropped,
        reported,
        ap (λ (t : InnerTable). t.keys.dropped) inner,
      );
      in_bucket = λ is_sized. subst (λ (s : Standing). s.last ≤ s.next_end) (sym standing) (omega arith);
      holds = subst (λ (s : Standing). HoldsSums new spec.bound (active_since spec now) s.last has.others result)
          (sym standing)
          (subst (λ ks. HoldsSums new spec.bound ks (last_end crossings) has.others result)
          (sym (since-other spec calls call refl))
          (subst (λ at. HoldsSums new spec.bound keys at has.others result) stops
          (subst (λ (it : Summing). HoldsSums it spec.bound keys start has.others result)
          (sym (ap (λ (it : Summing). record it { kept = kept }) opens.same)) holds)));
    })

-- what was kept was handed out
pub took : (it : Summing) (kept : Keeping (Row ℕ)) (table : Table MetricKey Span) (reported : ℕ)
    → ((weigh : Row ℕ → ℕ) → IsKept weigh [] kept) → table ≡ record it.table { dropped = 0 }
    → reported ≡ it.inner.keys.dropped
    → Moves sum_law it (record it { kept = kept; table = table; reported = reported }) Took
took it kept table reported none left is =
    let new : Summing = record it { kept = kept; table = table; reported = reported } in
    moves_by it new Took
    (λ params calls books has may.
    let spec = params.spec in
    let now = calls ++ Took ∷ [] in
    let standing = standing-push params calls Took in
    record {
      inner = takes_other it.inner spec calls Took refl (λ key. refl) has.inner;
      steady = has.steady;
      counted = counted_on it.inner spec calls Took refl has.counted;
      settled = λ none. (
        (has.settled may.0).0,
        (has.settled may.0).1 ∙ sym (since-other spec calls Took refl),
      );
      others = 0;
      reported = omega (arith, is);
      dropped = omega (arith, is);
      in_bucket = λ sized. subst (λ (s : Standing). s.last ≤ s.next_end) (sym standing) (has.in_bucket sized);
      holds = subst (λ (s : Standing). HoldsSums new spec.bound (active_since spec now) s.last 0
          (record books { closed = []; dropped = 0; missing = 0 })) (sym standing)
          (subst (λ ks. HoldsSums new spec.bound ks (standing_of (duration_demands params) calls).last 0
          (record books { closed = []; dropped = 0; missing = 0 })) (sym (since-other spec calls Took refl))
          (record {
            bound_is = ap (λ (t : Table MetricKey Span). t.bound) left ∙ has.holds.bound_is;
            start = has.holds.start;
            came_last = has.holds.came_last;
            few = has.holds.few;
            once = has.holds.once;
            rises = has.holds.rises;
            so_far = has.holds.so_far;
            all_once = has.holds.all_once;
            table = ap (λ (t : Table MetricKey Span). t.rows) left ∙ has.holds.table;
            dropped = ap (λ (t : Table MetricKey Span). t.dropped) left;
            kept = none row_weight;
            missing = refl;
          }));
    })

-- a producer of no calls
pub starts : (it : Summing) (params : DurationParams) → InnersStandFor it.inner params.spec []
    → it.table ≡ record { rows = []; bound = params.spec.bound; dropped = 0 } → it.start ≡ params.base
    → ((weigh : Row ℕ → ℕ) → IsKept weigh [] it.kept) → it.reported ≡ 0 → IsSettled it.inner
    → it.inner.keys.rows ≡ [] → SumStandsFor it params []
unfolding IsDistinct
starts it params inner table start kept reported settled empty =
    let none = same_drops it.inner params.spec [] inner in
    record {
      inner = inner;
      steady = λ at row there passes. absurd (none-some row (sym (ap (λ l. slice_get l at) empty) ∙ there));
      counted = λ key.
          let rows = ap (λ l. how_often key (flat_map row_tallied l)) empty in
          let gone = ap (how_often key) settled.none_gone in
          let none : counted_in it.inner key ≡ 0 = omega (arith, rows, gone) in
          ap (nat_lt 0) (sym none);
      settled = λ none. (settled, ap active_in empty);
      others = 0;
      reported = omega (arith, reported);
      dropped = omega (arith, none);
      in_bucket = λ sized. omega arith;
      holds = record {
        bound_is = ap (λ (t : Table MetricKey Span). t.bound) table;
        start = start;
        came_last = refl;
        few = omega arith;
        once = tt;
        rises = tt;
        so_far = omega arith;
        all_once = tt;
        table = ap (λ (t : Table MetricKey Span). t.rows) table
            ∙ sym (ap (map (λ key. (key, span_of [] key))) (take-nil params.spec.bound));
        dropped = ap (λ (t : Table MetricKey Span). t.dropped) table;
        kept = kept row_weight;
        missing = refl;
      };
    }
