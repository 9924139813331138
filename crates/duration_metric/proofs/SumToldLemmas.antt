-- A producer of sums holds its books where a condition is told.
use Rattle.std.proofs.Common.{inl, ◌≡◌, ℕ, ◌+◌, ◌≤◌, Bool, true, false, not, ◌||◌, nat_lt, List, [], ◌∷◌, ◌++◌, filter, length, IsPermutation, IsSorted, refl, sym, ap, subst, ◌∙◌, arith, ⊎_elim}
use Rattle.std.specs.List.{flat_map, IsDistinct}
use Rattle.std.specs.Ordering.{nat_cmp}
use Rattle.std.proofs.lemmas.Bool.{cases_Bool}
use Rattle.std.proofs.lemmas.List.Folds.{list_any-append}
use Rattle.atom_record.specs.Equal.{metric_key_exact}
use Rattle.atom_record.specs.declared.value.MetricKey.{MetricKey}
use Rattle.bucket_meaning.specs.Guard.{is_among, firsts}
use Rattle.bucket_meaning.specs.Marks.{Books, books_from}
use Rattle.bucket_meaning.specs.Rows.{drops}
use Rattle.bucket_meaning.proofs.GuardLemmas.{is_among-firsts}
use Rattle.config_types.specs.declared.parameters.PredSpec.{PredSpec}
use Rattle.dim_table.specs.Table.{Table}
use Rattle.predicate_state.specs.PredicateStates.{PredicateState}
use Rattle.predicate_state.specs.PredicateTable.{LeafKey}
use Rattle.metric_producer.specs.Calls.{Learned, Standing, standing_of}
use Rattle.metric_producer.specs.Moves.{Moves}
use Rattle.metric_kinds.specs.Keys.{is_same_key}
use Rattle.metric_kinds.specs.Runs.{Active, newly}
use Rattle.metric_kinds.specs.Durations.{sum_kind, turned}
use Rattle.duration_metric.specs.declared.change.InnerDelta.{InnerDelta}
use Rattle.duration_metric.specs.declared.inner.Inner.{Inner}
use Rattle.duration_metric.specs.declared.inner.InnerTable.{InnerTable}
use Rattle.duration_metric.specs.declared.sum.Span.{Span}
use Rattle.duration_metric.specs.InnerKeys.{DurationParams, DurationCall, duration_demands, last_known}
use Rattle.duration_metric.specs.InnerStands.{InnersStandFor, TakesDelta}
use Rattle.duration_metric.specs.SumCalls.{active_after, active_since}
use Rattle.duration_metric.specs.Tallies.{row_out, how_often, tally_at, is_counted, row_tallied, CountsSame, CountsAll, KeepsCounts, AreSteady, IsTallied}
use Rattle.duration_metric.specs.SumParts.{Summing}
use Rattle.duration_metric.specs.SumStands.{HoldsSums, HasSums, sum_law}
use Rattle.duration_metric.specs.SumSteps.{active_in, outs_at, fresh_at, StepsSome, BeginsAll, fresh_in, Recounts, ReleasesPlaces, LowersAll}
use Rattle.duration_metric.proofs.KnownLemmas.{inner_state-other}
use Rattle.duration_metric.proofs.ActiveLemmas.{active_is, few_active, active_once, since-learned}
use Rattle.duration_metric.proofs.BeginLemmas.{begins_newly}
use Rattle.duration_metric.proofs.CountedLemmas.{fresh_found}
use Rattle.duration_metric.proofs.RecountLemmas.{steady_sorted}
use Rattle.duration_metric.proofs.TallyLemmas.{steady_outs, how_often-among}
use Rattle.duration_metric.proofs.InnerBoundLemmas.{same_drops, few_listed}
use Rattle.duration_metric.proofs.SumTallyLemmas.{lowered_counts, left_counts}
use Rattle.duration_metric.proofs.SumMovesLemmas.{standing-push, moves_by}
use Rattle.duration_metric.proofs.SumTurnLemmas.{turned_by}
use Rattle.duration_metric.proofs.ChangedLemmas.{StepsAll, steps_changed}
use Rattle.duration_metric.proofs.SpanLemmas.{first_fails, second_fails, newly_among}

-- other inner keys, and the rest as it is
other_inner : (it : Summing) (inner : InnerTable) (bound : ℕ) (keys : List MetricKey) (last others : ℕ)
    (books : Books (Active MetricKey)) → HoldsSums it bound keys last others books
    → HoldsSums (record it { inner = inner }) bound keys last others books
other_inner it inner bound keys last others books holds = record {
  bound_is = holds.bound_is;
  start = holds.start;
  came_last = holds.came_last;
  few = holds.few;
  once = holds.once;
  rises = holds.rises;
  so_far = holds.so_far;
  all_once = holds.all_once;
  table = holds.table;
  dropped = holds.dropped;
  kept = holds.kept;
  missing = holds.missing;
}

-- a state by its parts
same_state : (unknown : Bool) {one other : List (LeafKey × ℕ)} {lost dropped : ℕ} → one ≡ other → lost ≡ dropped
    → (let state : PredicateState LeafKey = record { unknown = unknown; counts = one; dropped = lost } in state)
    ≡ record { unknown = unknown; counts = other; dropped = dropped }
same_state unknown counts_are dropped_is =
    λ i. record { unknown = unknown; counts = counts_are i; dropped = dropped_is i }

-- what a condition makes of the inner keys and of the tally
module _ (it : Summing) (inner : InnerTable) (rows last : Table LeafKey Inner)
    (tally raised lowered left : List (MetricKey × ℕ)) (places : List ℕ) (tolds fresh : List MetricKey)
    (params : DurationParams) (calls : List DurationCall) (at : ℕ) (delta : InnerDelta)
    (takes : TakesDelta it.inner inner delta) (right : IsTallied inner (tally_at tally))
    (finds : IsTallied inner (tally_at tally) → fresh ≡ fresh_in (tally_at tally) (active_in inner.keys.rows))
    (order : IsPermutation inner.touched places)
    (recounts : Recounts inner.keys rows tally raised places [])
    (lowers : LowersAll raised lowered inner.gone)
    (releases : ReleasesPlaces rows last lowered left places [] tolds)
    (stood : InnersStandFor it.inner params.spec calls) where
  abbrev spec : PredSpec
  spec = params.spec

  abbrev told : List DurationCall
  told = calls ++ Learned at delta ∷ []

  abbrev active : List MetricKey
  active = active_in inner.keys.rows

  abbrev new_inner : InnerTable
  new_inner = record inner { touched = []; gone = []; keys = last }

  active_now : active ≡ active_after spec told
  active_now = active_is inner spec told (takes spec calls at stood)

  -- the inner keys are those of the calls
  new_stands : InnersStandFor new_inner spec told
  new_stands =
      let stands = takes spec calls at stood in
      record {
        nesting_is = stands.nesting_is;
        bound_is = releases.bound_is ∙ recounts.bound_is ∙ stands.bound_is;
        state_is = same_state inner.unknown (releases.counts_are ∙ recounts.counts_are)
            (releases.dropped_is ∙ recounts.dropped_is) ∙ stands.state_is;
        known_are = releases.known_are (last_known spec told)
            (recounts.known_are (last_known spec told) stands.known_are);
      }

  new_steady : AreSteady [] last.rows
  new_steady =
      let before = steady_sorted inner.touched places inner.keys.rows order right.steady in
      (releases.steady (recounts.steady places before)
      (recounts.looked (λ place row there free. inl (before place row there free)))).0

  -- the tally counts the inner keys, and nothing else
  mid_counts : (key : MetricKey) → tally_at lowered key ≡ how_often key (flat_map row_tallied rows.rows)
  mid_counts = lowered_counts inner.keys rows last tally raised lowered left inner.gone tolds places right.all recounts
      lowers

  new_counts : (key : MetricKey) → tally_at left key ≡ how_often key (flat_map row_tallied last.rows)
  new_counts key =
      let all = left_counts inner.keys rows last tally raised lowered left inner.gone tolds places right.all recounts
      lowers releases key in
      omega (arith, all)

  new_tally : IsTallied new_inner (tally_at left)
  new_tally = record { all = λ key. omega (arith, new_counts key); steady = new_steady }

  -- so it has the active keys
  has_active : (key : MetricKey) → is_among is_same_key key active ≡ is_counted left key
  has_active key =
      is_among-firsts is_same_key metric_key_exact key [] (flat_map row_out inner.keys.rows)
      ∙ sym (how_often-among key (flat_map row_out inner.keys.rows))
      ∙ ap (λ l. nat_lt 0 (how_often key l))
      (sym (steady_outs last.rows new_steady ∙ releases.outs_are ∙ recounts.outs_are))
      ∙ ap (nat_lt 0) (sym (new_counts key))

  -- and those that begin weren't active before
  fresh_is : ((key : MetricKey) → is_among is_same_key key (active_since spec calls) ≡ is_counted tally key)
      → fresh ≡ newly is_same_key (active_since spec calls) active
  fresh_is counted =
      let same : newly is_same_key (active_since spec calls) active ≡ fresh_in (tally_at tally) active =
      λ i. filter (λ key. not (counted key i)) active in
      finds right ∙ sym same

  -- a key that isn't gone, and wasn't told of a touched row, is counted at least as often as it was
  not_fewer : (key : MetricKey) → is_among is_same_key key inner.gone ≡ false → is_among is_same_key key tolds ≡ false
      → tally_at tally key ≤ tally_at left key
  not_fewer key stays other =
      let none : nat_lt 0 (how_often key inner.gone) ≡ false = how_often-among key inner.gone ∙ stays in
      let no_more : how_often key inner.gone ≡ 0 = grind (arith, none) in
      omega (
        arith,
        no_more,
        recounts.tally_is inner.gone right.all key,
        mid_counts key,
        recounts.grows key,
        releases.same key other,
      )

  -- a key that is neither, nor begins, is as active as it was
  as_before : ((key : MetricKey) → is_among is_same_key key (active_since spec calls) ≡ is_counted tally key)
      → (key : MetricKey) → is_among is_same_key key ((inner.gone ++ tolds) ++ fresh) ≡ false
      → is_counted left key ≡ is_among is_same_key key (active_since spec calls)
  as_before counted key other =
      let before = active_since spec calls in
      let ends = is_among is_same_key key (inner.gone ++ tolds) in
      let begins = is_among is_same_key key fresh in
      let neither : (ends || begins) ≡ false =
      sym (list_any-append (λ other. is_same_key other key) (inner.gone ++ tolds) fresh) ∙ other in
      let stays : (is_among is_same_key key inner.gone || is_among is_same_key key tolds) ≡ false =
      sym (list_any-append (λ other. is_same_key other key) inner.gone tolds) ∙ first_fails ends begins neither in
      ⊎_elim
      (λ (was : is_among is_same_key key before ≡ true).
      let more = not_fewer key (first_fails (is_among is_same_key key inner.gone)
      (is_among is_same_key key tolds) stays)
      (second_fails (is_among is_same_key key inner.gone) (is_among is_same_key key tolds) stays) in
      let had : nat_lt 0 (tally_at tally key) ≡ true = sym (counted key) ∙ was in
      let has : nat_lt 0 (tally_at left key) ≡ true = grind (arith, more, had) in
      has ∙ sym was)
      (λ (was : is_among is_same_key key before ≡ false).
      sym (has_active key) ∙ sym (newly_among key before active was)
      ∙ ap (is_among is_same_key key) (sym (fresh_is counted)) ∙ second_fails ends begins neither ∙ sym was)
      (cases_Bool (is_among is_same_key key before))

-- the rows that begin at the touched places count for the keys that the tally had not
pub finds_begun : (inner : InnerTable) (rows : Table LeafKey Inner) (tally : List (MetricKey × ℕ))
    (sorted places began : List ℕ) → IsPermutation inner.touched sorted → IsSorted nat_cmp sorted → places ≡ sorted
    → outs_at rows.rows began ≡ firsts is_same_key [] (flat_map (fresh_at (tally_at tally) inner.keys.rows) places)
    → IsTallied inner (tally_at tally) → outs_at rows.rows began ≡ fresh_in (tally_at tally) (active_in inner.keys.rows)
finds_begun inner rows tally sorted places began same order are begins right =
    begins
    ∙ ap (λ l. firsts is_same_key [] (flat_map (fresh_at (tally_at tally) inner.keys.rows) l)) are
    ∙ fresh_found inner (tally_at tally) sorted same order right

-- a tally that counts the same
pub steps_same : (lowered left : List (MetricKey × ℕ)) (old new : Table MetricKey Span) (keys : List MetricKey) (at : ℕ)
    → CountsSame lowered left → StepsSome old new keys (is_counted lowered) at
    → StepsSome old new keys (is_counted left) at
steps_same lowered left old new keys at same steps =
    subst (λ (f : MetricKey → Bool). StepsSome old new keys f at) (λ i key. nat_lt 0 (sym (same key) i)) steps

-- nothing is touched or gone any more
pub emptied : (it : Summing) (inner : InnerTable) (rows : Table LeafKey Inner) (table : Table MetricKey Span)
    (touched : List ℕ) (gone : List MetricKey) → [] ≡ touched → [] ≡ gone
    → record it { inner = record inner { touched = []; gone = []; keys = rows }; table = table }
    ≡ record it { inner = record inner { touched = touched; gone = gone; keys = rows }; table = table }
emptied it inner rows table touched gone touched_is gone_is = λ i. record it {
  inner = record inner { touched = touched_is i; gone = gone_is i; keys = rows };
  table = table;
}

-- a condition was told
pub learned : (it : Summing) (inner : InnerTable) (rows last : Table LeafKey Inner)
    (tally raised lowered left : List (MetricKey × ℕ)) (places : List ℕ) (tolds fresh : List MetricKey)
    (part mid new : Table MetricKey Span) (at : ℕ) (delta : InnerDelta) → TakesDelta it.inner inner delta
    → KeepsCounts it.inner inner
    → (AreSteady it.inner.touched it.inner.keys.rows → AreSteady inner.touched inner.keys.rows)
    → CountsAll (tally_at tally) it.inner.keys.rows it.inner.gone
    → (IsTallied inner (tally_at tally) → fresh ≡ fresh_in (tally_at tally) (active_in inner.keys.rows))
    → IsPermutation inner.touched places → Recounts inner.keys rows tally raised places []
    → LowersAll raised lowered inner.gone → ReleasesPlaces rows last lowered left places [] tolds
    → StepsSome it.table part (inner.gone ++ tolds) (is_counted left) at
    → StepsSome part mid fresh (is_counted left) at → BeginsAll mid new [] fresh at
    → Moves sum_law it
    (record it { inner = record inner { touched = []; gone = []; keys = last }; table = new })
    (Learned at delta)
learned it inner rows last tally raised lowered left places tolds fresh part mid new at delta takes counts steady all
    finds order recounts lowers releases ends resumes begins =
    moves_by it
    (record it { inner = record inner { touched = []; gone = []; keys = last }; table = new })
    (Learned at delta)
    (λ params calls books has may.
    let spec = params.spec in
    let call : DurationCall = Learned at delta in
    let now = calls ++ call ∷ [] in
    let keys = active_since spec calls in
    let active = active_in inner.keys.rows in
    let next : InnerTable = record inner { touched = []; gone = []; keys = last } in
    let right : IsTallied inner (tally_at tally) = record {
      all = λ key. all key ∙ sym (counts key);
      steady = steady has.steady;
    } in
    let counted : (key : MetricKey) → is_among is_same_key key keys ≡ is_counted tally key =
    λ key. has.counted key ∙ ap (nat_lt 0) (sym (all key)) in
    let stands = new_stands it inner rows last tally raised lowered left places tolds fresh params calls at delta takes
    right finds order recounts lowers releases has.inner in
    let active_now : active ≡ active_after spec now = active_is inner spec now (takes spec calls at has.inner) in
    let tallied = new_tally it inner rows last tally raised lowered left places tolds fresh params calls at delta takes
    right finds order recounts lowers releases has.inner in
    let member = has_active it inner rows last tally raised lowered left places tolds fresh params calls at delta takes
    right finds order recounts lowers releases has.inner in
    let fresh_are = fresh_is it inner rows last tally raised lowered left places tolds fresh params calls at delta takes
    right finds order recounts lowers releases has.inner counted in
    let same_lost : last.dropped ≡ it.inner.keys.dropped =
    same_drops next spec now stands
    ∙ ap (λ (s : PredicateState LeafKey). s.dropped) (inner_state-other spec calls call refl)
    ∙ sym (same_drops it.inner spec calls has.inner) in
    let same_outs : active_in last.rows ≡ active =
    ap (firsts is_same_key []) (releases.outs_are ∙ recounts.outs_are) in
    let few : length active ≤ spec.bound =
    omega (arith, few_active last.rows, ap length same_outs, few_listed next spec now stands) in
    let once : IsDistinct is_same_key active = active_once inner.keys.rows in
    let standing = standing-push params calls call in
    let same : (λ (key : MetricKey). is_counted left key) ≡ (λ (key : MetricKey). is_among is_same_key key active) =
    λ i key. sym (member key) i in
    let kept = as_before it inner rows last tally raised lowered left places tolds fresh params calls at delta takes
    right finds order recounts lowers releases has.inner counted in
    let steps = steps_changed (is_counted left) at it.table part mid spec.bound books.came (inner.gone ++ tolds) fresh
    has.holds.table ends resumes
    (λ key other. kept key other ∙ ap (is_among is_same_key key) (sym has.holds.came_last)) in
    let turns = turned_by it active mid new at spec.bound keys
    (standing_of (duration_demands params) calls).last has.others books has.holds may.0.timely.not_before
    (subst (λ (f : MetricKey → Bool). StepsAll it.table mid f at) same steps)
    (begins_newly mid new keys active fresh at fresh_are begins) few once in
    let result = record it { inner = next; table = new } in
    let since : active ≡ active_since spec now = active_now ∙ sym (since-learned spec calls at delta) in
    subst (λ ks. HasSums result params now
    (books_from (drops sum_kind spec.bound) books (turned at keys ks))) active_now
    (record {
      inner = stands;
      steady = tallied.steady;
      counted = λ key. ap (is_among is_same_key key) (sym since) ∙ member key ∙ ap (nat_lt 0) (tallied.all key);
      settled = λ none. (record { none_touched = refl; none_gone = refl }, same_outs ∙ since);
      others = has.others + turns.more;
      reported = omega (arith, same_lost, has.reported);
      dropped = omega (arith, same_lost, has.reported, has.dropped, turns.counted);
      in_bucket = λ sized. subst (λ (s : Standing). s.last ≤ s.next_end) (sym standing) (may.0.timely.in_bucket sized);
      holds = subst (λ (s : Standing). HoldsSums result spec.bound (active_since spec now) s.last
          (has.others + turns.more)
          (books_from (drops sum_kind spec.bound) books (turned at keys active))) (sym standing)
          (subst (λ ks. HoldsSums result spec.bound ks at (has.others + turns.more)
          (books_from (drops sum_kind spec.bound) books (turned at keys active))) since
          (other_inner (record it { table = new }) next spec.bound active at
          (has.others + turns.more)
          (books_from (drops sum_kind spec.bound) books (turned at keys active)) turns.holds));
    }))
