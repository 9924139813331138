-- A producer of longest durations stands for its calls through each of them.
use Rattle.std.proofs.Common.{◌≡◌, ℕ, ◌+◌, ◌*◌, ◌^◌, ◌<◌, ◌≤◌, true, List, [], ◌∷◌, ◌++◌, map, filter, nat_lt, refl, sym, ap, subst, ◌∙◌, arith}
use Rattle.std.specs.List.{AllByRecursion, IsDistinct, last_or}
use Rattle.std.specs.Map.{keys_of}
use Rattle.atom_record.specs.declared.value.MetricKey.{MetricKey}
use Rattle.bucket_clock.specs.declared.crossings.Crossings.{Crossings}
use Rattle.bucket_clock.specs.Clock.{last_end}
use Rattle.bucket_meaning.specs.Ends.{ends_from}
use Rattle.bucket_meaning.specs.Guard.{is_among}
use Rattle.bucket_meaning.specs.Marks.{Mark, Ends, Asked, Books, no_edges, boundary_marks}
use Rattle.bucket_meaning.specs.Meaning.{marks_on}
use Rattle.bucket_meaning.proofs.MeaningLemmas.{books_by-push}
use Rattle.config_types.specs.declared.parameters.PredSpec.{PredSpec}
use Rattle.predicate_state.specs.PredicateStates.{PredicateState, initial_state}
use Rattle.predicate_state.specs.PredicateTable.{LeafKey, same_leaves}
use Rattle.metric_producer.specs.Calls.{Got, Learned, Crossed, CutAt, Took, Standing, first_standing, after_call, standing_of}
use Rattle.metric_producer.specs.Rules.{IsAdmitted}
use Rattle.metric_producer.specs.Moves.{Moves}
use Rattle.metric_producer.specs.Collecting.{calls_mean, call_marks}
use Rattle.metric_producer.proofs.RuleLemmas.{standing_from-append, answer_fits}
use Rattle.duration_metric.specs.declared.change.InnerEvent.{InnerEvent}
use Rattle.duration_metric.specs.declared.change.InnerDelta.{InnerDelta}
use Rattle.duration_metric.specs.declared.sparse.MaxProducer.{MaxProducer}
use Rattle.duration_metric.specs.declared.sparse_books.SparseBooks.{SparseBooks}
use Rattle.duration_metric.specs.declared.sparse_keys.SparseKeys.{SparseKeys}
use Rattle.duration_metric.specs.InnerKeys.{DurationParams, DurationCall, duration_demands, key_events, inner_state, inner_keys, last_known, told_to}
use Rattle.duration_metric.specs.SparseCalls.{sparse_collecting, turn_times, is_on}
use Rattle.duration_metric.specs.SparseBooksStand.{HoldsTimes, with_longest, TakesLongestMarks, AreNewSparse}
use Rattle.duration_metric.specs.SparseEntries.{sparse_state, RowStands, KeysStand, IsOfNoCalls, TakesKeyEvent, LearnsDelta}
use Rattle.duration_metric.specs.SparseStands.{HasSparse, SparseStandsFor, sparse_mean, sparse_law}
use Rattle.duration_metric.proofs.SparseKnownLemmas.{state_idle, known-unlisted, known-listed, time-idle}
use Rattle.duration_metric.proofs.SparseRowLemmas.{Row, all_both}
use Rattle.duration_metric.proofs.SparseStepLemmas.{all_listed}
use Rattle.duration_metric.proofs.SparseBooksLemmas.{closes_many}

-- of no calls
pub of_no_calls : (it : SparseKeys) (spec : PredSpec) → it.spec ≡ spec → it.table.bound ≡ spec.bound
    → sparse_state it ≡ initial_state spec → it.table.rows ≡ [] → IsOfNoCalls it spec
unfolding IsDistinct
of_no_calls it spec same_spec same_bound state none last = record {
  spec_is = same_spec;
  bound_is = same_bound;
  state_is = state;
  distinct = subst (λ (rows : List Row). IsDistinct same_leaves (keys_of rows)) (sym none) tt;
  rows_are = subst (AllByRecursion (RowStands spec [] last)) (sym none) tt;
  others_are = record { unlisted = λ key listed. refl; off = λ key on end. refl };
}

-- a call that is neither an event nor a condition leaves the inner keys
idles : (it : SparseKeys) (spec : PredSpec) (calls : List DurationCall) (last later : ℕ) (call : DurationCall)
    → key_events call ≡ [] → turn_times call ≡ [] → ((key : LeafKey) → told_to spec key calls call ≡ [])
    → KeysStand it spec calls last → last ≤ later → KeysStand it spec (calls ++ call ∷ []) later
idles it spec calls last later call idle none untold has reached =
    let state = state_idle spec calls call idle in
    let now : sparse_state it ≡ inner_state spec (calls ++ call ∷ []) = has.state_is ∙ sym state in
    let on_same : (key : LeafKey) → is_on spec (calls ++ call ∷ []) key ≡ is_on spec calls key = λ key.
    ap (λ (s : PredicateState LeafKey). is_among same_leaves key (map (λ (entry : LeafKey × ℕ). entry.0)
    (filter (λ (entry : LeafKey × ℕ). nat_lt 0 entry.1) s.counts))) state in
    record {
      spec_is = has.spec_is;
      bound_is = has.bound_is;
      state_is = now;
      distinct = has.distinct;
      rows_are =
          all_both (λ (row : Row). is_among same_leaves row.0 (inner_keys spec (calls ++ call ∷ [])) ≡ true)
          (RowStands spec calls last) (RowStands spec (calls ++ call ∷ []) later) it.table.rows
          (λ row listed is. record {
            known_is = is.known_is ∙ sym (known-listed spec calls call row.0 listed
                ∙ ap (last_or (last_known spec calls row.0)) (untold row.0));
            since_within = omega (arith, is.since_within, reached);
            time_within = is.time_within;
            time_is = λ positive end after. time-idle spec calls call row.0 end none
                ∙ is.time_is positive end (omega (arith, reached, after));
          })
          (all_listed spec (calls ++ call ∷ []) it now) has.rows_are;
      others_are = record {
        unlisted = λ key off. known-unlisted spec calls call key off;
        off = λ key off end. time-idle spec calls call key end none
            ∙ has.others_are.off key (sym (on_same key) ∙ off) end;
      };
    }

module _ (params : DurationParams) where
  -- how far calls have come
  abbrev reached_by : List DurationCall → Standing
  reached_by calls = standing_of (duration_demands params) calls

  -- with one more call
  reached-push : (calls : List DurationCall) (call : DurationCall)
      → reached_by (calls ++ call ∷ []) ≡ after_call (duration_demands params) (reached_by calls) call
  reached-push calls call =
      standing_from-append (duration_demands params) (first_standing (duration_demands params)) calls (call ∷ [])

  -- what stands after a call, by its parts
  stands_after : (new : MaxProducer) (calls : List DurationCall) (call : DurationCall) (books : Books (MetricKey × ℕ))
      → HoldsTimes new.books params.spec.bound books
      → KeysStand new.keys params.spec (calls ++ call ∷ [])
      (after_call (duration_demands params) (reached_by calls) call).last
      → 0 < params.size
      → (after_call (duration_demands params) (reached_by calls) call).last
      ≤ (after_call (duration_demands params) (reached_by calls) call).next_end
      → HasSparse new params (calls ++ call ∷ []) books
  stands_after new calls call books held keys sized in_bucket = record {
    held = held;
    keys = subst (λ (s : Standing). KeysStand new.keys params.spec (calls ++ call ∷ []) s.last)
        (sym (reached-push calls call)) keys;
    sized = sized;
    in_bucket = subst (λ (s : Standing). s.last ≤ s.next_end) (sym (reached-push calls call)) in_bucket;
  }

-- from books to calls
moves_by : (old new : MaxProducer) (call : DurationCall)
    → ((params : DurationParams) (calls : List DurationCall) (books : Books (MetricKey × ℕ))
    → HasSparse old params calls books → IsAdmitted (duration_demands params) calls call
    → HasSparse new params (calls ++ call ∷ [])
    (marks_on (calls_mean sparse_collecting) params books (call_marks sparse_collecting params calls call)))
    → Moves sparse_law old new call
moves_by old new call step params calls has may =
    subst (HasSparse new params (calls ++ call ∷ []))
    (sym (books_by-push (calls_mean sparse_collecting) params calls call))
    (step params calls (sparse_mean params calls) has may)

-- no call has come
pub begins_with : (it : MaxProducer) (params : DurationParams) → IsOfNoCalls it.keys params.spec
    → AreNewSparse it.books params.base params.spec.bound → 0 < params.size → SparseStandsFor it params []
begins_with it params keys books sized = record {
  held = books;
  keys = keys params.base;
  sized = sized;
  in_bucket = omega arith;
}

-- an event came
pub came : (old new : MaxProducer) (at : ℕ) (event : InnerEvent) (marks : List (Mark (MetricKey × ℕ)))
    → TakesKeyEvent old.keys new.keys at event marks → TakesLongestMarks old.books new.books marks
    → Moves sparse_law old new (Got at event)
came old new at event marks keys books_take =
    moves_by old new (Got at event) (λ params calls books has may.
    let bound = params.spec.bound in
    let both = keys params.spec calls (reached_by params calls).last has.keys may.0.timely.not_before in
    stands_after params new calls (Got at event) _
    (subst (λ ms. HoldsTimes new.books bound (with_longest bound books ms)) (sym both.1)
    (books_take bound books has.held))
    both.0 has.sized (may.0.timely.in_bucket has.sized))

-- a condition was told
pub learned : (old new : MaxProducer) (at : ℕ) (delta : InnerDelta) → new.books ≡ old.books
    → LearnsDelta old.keys new.keys at delta → Moves sparse_law old new (Learned at delta)
learned old new at delta same keys =
    moves_by old new (Learned at delta) (λ params calls books has may.
    stands_after params new calls (Learned at delta) books
    (subst (λ b. HoldsTimes b params.spec.bound books) (sym same) has.held)
    (keys params.spec calls (reached_by params calls).last has.keys may.0.timely.not_before)
    has.sized (may.0.timely.in_bucket has.sized))

-- the open part was cut
pub cuts : (old : MaxProducer) (books_now : SparseBooks) (at : ℕ) → TakesLongestMarks old.books books_now (Ends at ∷ [])
    → Moves sparse_law old (record old { books = books_now }) (CutAt at)
cuts old books_now at closed =
    moves_by old (record old { books = books_now }) (CutAt at) (λ params calls books has may.
    stands_after params (record old { books = books_now }) calls (CutAt at) _
    (closed params.spec.bound books has.held)
    (idles old.keys params.spec calls (reached_by params calls).last at (CutAt at) refl refl (λ key. refl) has.keys
    may.0.timely.not_before)
    has.sized (may.0.timely.in_bucket has.sized))

-- what is kept was handed out
pub took : (old : MaxProducer) (books_now : SparseBooks) → TakesLongestMarks old.books books_now (Asked ∷ [])
    → Moves sparse_law old (record old { books = books_now }) Took
took old books_now asked =
    moves_by old (record old { books = books_now }) Took (λ params calls books has may.
    stands_after params (record old { books = books_now }) calls Took _
    (asked params.spec.bound books has.held)
    (idles old.keys params.spec calls (reached_by params calls).last (reached_by params calls).last Took refl refl
    (λ key. refl) has.keys (omega arith))
    has.sized has.in_bucket)

-- ends of buckets were crossed
pub crosses : (old : MaxProducer) (closed : SparseBooks) (crossings : Crossings) (start : ℕ)
    → TakesLongestMarks old.books closed (Ends crossings.first_end ∷ [])
    → (last_end crossings < 2 ^ 63 → start ≡ last_end crossings)
    → Moves sparse_law old (record old { books = record closed { start = start } }) (Crossed crossings)
crosses old closed crossings start takes is_last =
    moves_by old (record old { books = record closed { start = start } }) (Crossed crossings)
    (λ params calls books has may.
    let bound = params.spec.bound in
    let first = crossings.first_end in
    let size = crossings.size in
    let full = crossings.full_buckets in
    let closed_books = with_longest bound books (Ends first ∷ []) in
    let has_first = takes bound books has.held in
    let last : start ≡ last_end crossings = is_last (answer_fits (duration_demands params) _ crossings may.0) in
    let many = closes_many full closed bound closed_books size has_first refl in
    let at_first : first ≡ (reached_by params calls).next_end = may.0.answer.first_end in
    stands_after params (record old { books = record closed { start = start } }) calls (Crossed crossings) _
    (subst (λ s. HoldsTimes (record closed { start = s }) bound
    (with_longest bound closed_books (boundary_marks no_edges (ends_from (first + size) size full)))) (sym last)
    (subst (λ s. HoldsTimes (record closed { start = s + full * size }) bound
    (with_longest bound closed_books (boundary_marks no_edges (ends_from (s + size) size full)))) has_first.start many))
    (idles old.keys params.spec calls (reached_by params calls).last (last_end crossings) (Crossed crossings) refl refl
    (λ key. refl) has.keys (omega (arith, at_first, has.in_bucket)))
    has.sized (omega arith))
