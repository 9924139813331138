-- Two crossings with nothing between them, for producers of sums and of longest durations: a crossing tells nothing of
-- the inner keys, and both lead as far as the one that covers both.
use Rattle.std.proofs.Common.{◌≡◌, ℕ, ◌≤◌, nat_lt, true, false, List, [], ◌∷◌, ◌++◌, map, filter, refl, sym, ap, subst, ◌∙◌, ⊎_elim}
use Rattle.std.specs.Map.{keys_of}
use Rattle.std.proofs.lemmas.Bool.{cases_Bool}
use Rattle.atom_record.specs.declared.value.MetricKey.{MetricKey}
use Rattle.bucket_clock.specs.declared.crossings.Crossings.{Crossings}
use Rattle.bucket_meaning.specs.Guard.{is_among}
use Rattle.bucket_meaning.specs.Marks.{Came, Books}
use Rattle.config_types.specs.declared.parameters.PredSpec.{PredSpec}
use Rattle.predicate_state.specs.PredicateStates.{PredicateState}
use Rattle.predicate_state.specs.PredicateTable.{LeafKey, same_leaves}
use Rattle.metric_producer.specs.Calls.{Crossed, Standing, standing_of}
use Rattle.metric_producer.specs.Joining.{Joins}
use Rattle.metric_producer.proofs.JoiningLemmas.{BeginsAnew, books_joined, standing_joined, none_anew, same_joined}
use Rattle.metric_kinds.specs.Keys.{is_same_key}
use Rattle.metric_kinds.specs.Runs.{Active}
use Rattle.duration_metric.specs.declared.inner.InnerTable.{InnerTable}
use Rattle.duration_metric.specs.declared.sparse.MaxProducer.{MaxProducer}
use Rattle.duration_metric.specs.declared.sparse_keys.SparseKeys.{SparseKeys}
use Rattle.duration_metric.specs.InnerKeys.{DurationParams, DurationCall, duration_demands, inner_state, inner_keys, last_known}
use Rattle.duration_metric.specs.InnerStands.{InnersStandFor}
use Rattle.duration_metric.specs.SumCalls.{active_since, sum_collecting}
use Rattle.duration_metric.specs.SumParts.{Summing}
use Rattle.duration_metric.specs.SumStands.{HoldsSums, HasSums, sum_law}
use Rattle.duration_metric.specs.SparseCalls.{running_time, sparse_collecting}
use Rattle.duration_metric.specs.SparseEntries.{RowStands, KeysStand}
use Rattle.duration_metric.specs.SparseStands.{HasSparse, sparse_law}
use Rattle.duration_metric.proofs.KnownLemmas.{inner_state-other, last_known-listed, last_known-absent, known_where}
use Rattle.duration_metric.proofs.ActiveLemmas.{since-other}
use Rattle.duration_metric.proofs.SparseKnownLemmas.{time-idle}
use Rattle.duration_metric.proofs.SparseRowLemmas.{all_map}

module _ (spec : PredSpec) where
  -- a crossing tells nothing of the inner keys
  crossed_state : (calls : List DurationCall) (crossings : Crossings)
      → inner_state spec (calls ++ Crossed crossings ∷ []) ≡ inner_state spec calls
  crossed_state calls crossings = inner_state-other spec calls (Crossed crossings) refl

  crossed_known : (key : LeafKey) (calls : List DurationCall) (crossings : Crossings)
      → last_known spec (calls ++ Crossed crossings ∷ []) key ≡ last_known spec calls key
  crossed_known key calls crossings =
      let now = calls ++ Crossed crossings ∷ [] in
      ⊎_elim
      (λ (listed : is_among same_leaves key (inner_keys spec now) ≡ true).
      last_known-listed spec calls (Crossed crossings) key listed)
      (λ (absent : is_among same_leaves key (inner_keys spec now) ≡ false).
      last_known-absent spec now key absent
      ∙ sym (last_known-absent spec calls key
      (ap (λ (s : PredicateState LeafKey). is_among same_leaves key (keys_of s.counts))
      (sym (crossed_state calls crossings)) ∙ absent)))
      (cases_Bool (is_among same_leaves key (inner_keys spec now)))

  crossed_active : (calls : List DurationCall) (crossings : Crossings)
      → active_since spec (calls ++ Crossed crossings ∷ []) ≡ active_since spec calls
  crossed_active calls crossings = since-other spec calls (Crossed crossings) refl

  crossed_time : (key : LeafKey) (end : ℕ) (calls : List DurationCall) (crossings : Crossings)
      → running_time spec (calls ++ Crossed crossings ∷ []) end key ≡ running_time spec calls end key
  crossed_time key end calls crossings = time-idle spec calls (Crossed crossings) key end refl

  -- Some calls tell of the inner keys what others tell.
  record TellAlike (calls others : List DurationCall) : Type 0 where
    state : inner_state spec calls ≡ inner_state spec others
    known : (key : LeafKey) → last_known spec calls key ≡ last_known spec others key
    active : active_since spec calls ≡ active_since spec others
    time : (key : LeafKey) (end : ℕ) → running_time spec calls end key ≡ running_time spec others end key

  -- both crossings tell what the whole tells
  tell_joined : (calls : List DurationCall) (one other whole : Crossings)
      → TellAlike (calls ++ Crossed whole ∷ []) (calls ++ Crossed one ∷ Crossed other ∷ [])
  tell_joined calls one other whole = record {
    state = same_joined (inner_state spec) crossed_state calls one other whole;
    known = λ key. same_joined (λ those. last_known spec those key) (crossed_known key) calls one other whole;
    active = same_joined (active_since spec) crossed_active calls one other whole;
    time = λ key end.
        same_joined (λ those. running_time spec those end key) (crossed_time key end) calls one other whole;
  }

  -- a table of inner keys stands for all calls that tell the same
  inners_alike : (it : InnerTable) (calls others : List DurationCall) → TellAlike calls others
      → InnersStandFor it spec calls → InnersStandFor it spec others
  inners_alike it calls others alike stands = record {
    nesting_is = stands.nesting_is;
    bound_is = stands.bound_is;
    state_is = stands.state_is ∙ alike.state;
    known_are = known_where (last_known spec calls) (last_known spec others) it.keys.rows
        (λ key listed. alike.known key) stands.known_are;
  }

  -- and so do the inner keys of a longest duration
  keys_alike : (it : SparseKeys) (last : ℕ) (calls others : List DurationCall) → TellAlike calls others
      → KeysStand it spec calls last → KeysStand it spec others last
  keys_alike it last calls others alike stands = record {
    spec_is = stands.spec_is;
    bound_is = stands.bound_is;
    state_is = stands.state_is ∙ alike.state;
    distinct = stands.distinct;
    rows_are = all_map (RowStands spec calls last) (RowStands spec others last) it.table.rows
        (λ row is. record {
          known_is = is.known_is ∙ alike.known row.0;
          since_within = is.since_within;
          time_within = is.time_within;
          time_is = λ positive end later. sym (alike.time row.0 end) ∙ is.time_is positive end later;
        }) stands.rows_are;
    others_are = record {
      unlisted = λ key off. sym (alike.known key)
          ∙ stands.others_are.unlisted key
          (ap (λ (s : PredicateState LeafKey). is_among same_leaves key (keys_of s.counts)) alike.state ∙ off);
      off = λ key off end. sym (alike.time key end)
          ∙ stands.others_are.off key
          (ap (λ (s : PredicateState LeafKey). is_among same_leaves key (map (λ (entry : LeafKey × ℕ). entry.0)
          (filter (λ (entry : LeafKey × ℕ). nat_lt 0 entry.1) s.counts))) alike.state ∙ off) end;
    };
  }

module _ (params : DurationParams) where
  -- how far calls have come
  abbrev come_to : List DurationCall → Standing
  come_to calls = standing_of (duration_demands params) calls

  -- what a producer of sums has after calls that tell the same and come as far
  sums_alike : (it : Summing) (calls others : List DurationCall) (books : Books (Active MetricKey))
      → TellAlike params.spec calls others → come_to calls ≡ come_to others
      → HasSums it params calls books → HasSums it params others books
  sums_alike it calls others books alike comes has =
      let bound = params.spec.bound in
      record {
        inner = inners_alike params.spec it.inner calls others alike has.inner;
        steady = has.steady;
        counted = λ key. ap (is_among is_same_key key) (sym alike.active) ∙ has.counted key;
        settled = λ none.
            let was = has.settled (ap (λ (s : Standing). s.owed) comes ∙ none) in (was.0, was.1 ∙ alike.active);
        others = has.others;
        reported = has.reported;
        dropped = has.dropped;
        in_bucket = λ sized. subst (λ (s : Standing). s.last ≤ s.next_end) comes (has.in_bucket sized);
        holds = subst (λ (s : Standing). HoldsSums it bound (active_since params.spec others) s.last has.others books)
            comes (subst (λ keys. HoldsSums it bound keys (come_to calls).last has.others books) alike.active
            has.holds);
      }

  -- and one of longest durations
  sparse_alike : (it : MaxProducer) (calls others : List DurationCall) (books : Books (MetricKey × ℕ))
      → TellAlike params.spec calls others → come_to calls ≡ come_to others
      → HasSparse it params calls books → HasSparse it params others books
  sparse_alike it calls others books alike comes has = record {
    held = has.held;
    keys = subst (λ (s : Standing). KeysStand it.keys params.spec others s.last) comes
        (keys_alike params.spec it.keys (come_to calls).last calls others alike has.keys);
    sized = has.sized;
    in_bucket = subst (λ (s : Standing). s.last ≤ s.next_end) comes has.in_bucket;
  }

-- each part after a crossing begins with the same active keys
sums_anew : (params : DurationParams) → BeginsAnew sum_collecting params
sums_anew params calls crossings = record {
  closing = λ at. refl;
  closing_again = λ at. refl;
  opening = λ at. ap (λ keys. Came (record { at = at; keys = keys }) ∷ []) (crossed_active params.spec calls crossings);
}

pub sums_join : Joins sum_law
sums_join it params calls one other whole made stands =
    let both = calls ++ Crossed one ∷ Crossed other ∷ [] in
    subst (HasSums it params both) (books_joined sum_collecting params calls one other whole made (sums_anew params))
    (sums_alike params it (calls ++ Crossed whole ∷ []) both _ (tell_joined params.spec calls one other whole)
    (standing_joined (duration_demands params) calls one other whole made) stands)

pub sparse_join : Joins sparse_law
sparse_join it params calls one other whole made stands =
    let both = calls ++ Crossed one ∷ Crossed other ∷ [] in
    subst (HasSparse it params both)
    (books_joined sparse_collecting params calls one other whole made (λ calls crossings. none_anew))
    (sparse_alike params it (calls ++ Crossed whole ∷ []) both _ (tell_joined params.spec calls one other whole)
    (standing_joined (duration_demands params) calls one other whole made) stands)
