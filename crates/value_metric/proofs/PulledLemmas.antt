-- A producer of pulled values has its snapshots and holds its books through every call.
use Rattle.std.proofs.Common.{◌≡◌, ℕ, ℤ, ◌+◌, ◌<◌, ◌^◌, true, false, List, [], ◌∷◌, ◌++◌, Option, Some, None, is_some, if◌then◌else◌, refl, sym, ap, subst, ◌∙◌, append-nil}
use Rattle.std.specs.List.{flat_map}
use Rattle.std.specs.Option.{option_map}
use Rattle.atom_record.specs.declared.value.MetricKey.{MetricKey}
use Rattle.bucket_clock.specs.declared.crossings.Crossings.{Crossings}
use Rattle.bucket_clock.specs.Clock.{last_end}
use Rattle.bucket_meaning.specs.Ends.{ends_from}
use Rattle.bucket_meaning.specs.Marks.{Ends, Asked, Books, edges_again, boundary, boundary_marks, books_from}
use Rattle.bucket_meaning.specs.Meaning.{marks_on}
use Rattle.bucket_meaning.specs.Rows.{drops}
use Rattle.bucket_meaning.proofs.MarksLemmas.{books-append}
use Rattle.bucket_meaning.proofs.MeaningLemmas.{books_by-push}
use Rattle.config_types.specs.declared.parameters.DiffSpec.{DiffSpec}
use Rattle.predicate_state.specs.declared.truth.Truth.{Truth}
use Rattle.metric_producer.specs.Calls.{Got, Learned, Crossed, CutAt, Took}
use Rattle.metric_producer.specs.Collecting.{call_marks, calls_mean}
use Rattle.metric_producer.specs.Moves.{Moves}
use Rattle.metric_producer.specs.Rules.{IsAdmitted}
use Rattle.metric_producer.proofs.RuleLemmas.{answer_fits}
use Rattle.metric_kinds.specs.Diffs.{KeyedInts, interval_marks}
use Rattle.metric_kinds.specs.Intervals.{ended_with, ended_at_moment, open_after}
use Rattle.metric_kinds.proofs.JumpLemmas.{boundaries_again}
use Rattle.value_metric.specs.declared.keyed_int.SnapInts.{SnapInts}
use Rattle.value_metric.specs.declared.pulled_value.Open.{Open}
use Rattle.value_metric.specs.declared.pulled_value.Open.TheVariants.{Nothing, AtLast, Earlier}
use Rattle.value_metric.specs.declared.pulled_value.PulledValue.{PulledValue}
use Rattle.value_metric.specs.declared.value_books.Counts.{Counts}
use Rattle.value_metric.specs.declared.value_books.ValueBooks.{ValueBooks}
use Rattle.value_metric.specs.PulledValues.{PulledValueParams, PulledValueCall, pulled_value_demands, integers_found, is_truth, last_found, is_told_true, seen_after_calls}
use Rattle.value_metric.specs.CallIntervals.{open_by_calls}
use Rattle.value_metric.specs.PulledCollecting.{pulled_collecting, pulled_edges}
use Rattle.value_metric.specs.PulledStands.{pulled_form, begun_sums, sums_found, HasSnapshots, HoldsDiffs, pulled_mean, pulled_law}
use Rattle.value_metric.specs.PulledSteps.{opened_again, opened_before, opened_by, ending_marks, marks_again, ClosesPulled, Jumps}
use Rattle.value_metric.specs.Sums.{sums_marks, opened_marks}
use Rattle.value_metric.specs.ValueBooksStand.{form_kind, HoldsBooks, TakesMark, TakesValueMarks, ClosesAgain}
use Rattle.value_metric.proofs.MarksTaken.{takes-append}
use Rattle.value_metric.proofs.JumpsLemmas.{takes_again}
use Rattle.value_metric.proofs.CallIntervalsLemmas.{last_found-push, open_while_held, open-same, open-learned, open-begins}

-- What an interval gives is what it gives by the sums of its beginning and its end.
gives : (spec : DiffSpec) (open_now : Option (Option KeyedInts)) (found : Option KeyedInts)
    → opened_marks spec (option_map sums_found open_now) (sums_found found)
    ≡ flat_map (interval_marks spec) (ended_with open_now found)
gives spec None found = refl
gives spec (Some None) found = refl
gives spec (Some (Some start)) None = refl
gives spec (Some (Some start)) (Some end) =
    sym (append-nil (sums_marks spec (sums_found (Some start)) (sums_found (Some end))))

-- what the open interval of a producer gives is what that of its calls gives
ending : (it : PulledValue) (params : PulledValueParams) (calls : List PulledValueCall) → it.spec ≡ params.spec
    → HasSnapshots it calls
    → ending_marks it
    ≡ flat_map (interval_marks params.spec) (ended_with (open_by_calls calls) (last_found calls))
ending it params calls spec has =
    ap (λ s. opened_marks s (begun_sums it.interval it.last) it.last) spec
    ∙ ap (λ begun. opened_marks params.spec begun it.last) has.begun
    ∙ ap (λ last. opened_marks params.spec (option_map sums_found (open_by_calls calls)) last) has.last
    ∙ gives params.spec (open_by_calls calls) (last_found calls)

-- a pull after the beginning of an interval leaves the sums with which it began
begun_before : (interval : Open) (last next : Option KeyedInts)
    → begun_sums (opened_before last interval) next ≡ begun_sums interval last
begun_before Nothing last next = refl
begun_before AtLast last next = refl
begun_before (Earlier sums) last next = refl

-- an interval begins anew with the last snapshot, where one is open
begun_again : (interval : Open) (last : Option KeyedInts) (open_now : Option (Option KeyedInts))
    (found : Option KeyedInts) → last ≡ sums_found found → begun_sums interval last ≡ option_map sums_found open_now
    → begun_sums (opened_again interval) last ≡ option_map sums_found (if is_some open_now then Some found else None)
begun_again Nothing last None found is begun = refl
begun_again Nothing last (Some b) found is begun = absurd (cc)
begun_again AtLast last None found is begun = absurd (cc)
begun_again AtLast last (Some b) found is begun = ap Some is
begun_again (Earlier sums) last None found is begun = absurd (cc)
begun_again (Earlier sums) last (Some b) found is begun = ap Some is

-- a true condition opens an interval where none is
begun_by : (interval : Open) (last : Option KeyedInts) (open_now : Option (Option KeyedInts))
    (found : Option KeyedInts) → last ≡ sums_found found → begun_sums interval last ≡ option_map sums_found open_now
    → begun_sums (opened_by interval) last
    ≡ option_map sums_found (open_after open_now (record { holds = true; found = found }))
begun_by Nothing last None found is begun = ap Some is
begun_by Nothing last (Some b) found is begun = absurd (cc)
begun_by AtLast last None found is begun = absurd (cc)
begun_by AtLast last (Some b) found is begun = begun
begun_by (Earlier sums) last None found is begun = absurd (cc)
begun_by (Earlier sums) last (Some b) found is begun = begun

-- none is open after a condition that isn't true
closed_by : (open_now : Option (Option KeyedInts)) (found : Option KeyedInts)
    → None ≡ option_map sums_found (open_after open_now (record { holds = false; found = found }))
closed_by None found = refl
closed_by (Some b) found = refl

-- one more pull
has_pulled : (old new : PulledValue) (calls : List PulledValueCall) (at : ℕ) (event : SnapInts)
    → new.last ≡ sums_found (integers_found event) → new.interval ≡ opened_before old.last old.interval
    → HasSnapshots old calls → HasSnapshots new (calls ++ Got at event ∷ [])
has_pulled old new calls at event last interval has = record {
  last = last ∙ ap sums_found (sym (last_found-push calls (Got at event)));
  begun = ap (λ i. begun_sums i new.last) interval ∙ begun_before old.interval old.last new.last ∙ has.begun
      ∙ ap (option_map sums_found) (sym (open-same calls (Got at event) refl refl));
}

-- where nothing is told and no part begins, the snapshots are the same
has_same : (it new : PulledValue) (calls : List PulledValueCall) → new.last ≡ it.last → new.interval ≡ it.interval
    → HasSnapshots it calls → HasSnapshots new (calls ++ Took ∷ [])
has_same it new calls last interval has = record {
  last = last ∙ has.last ∙ ap sums_found (sym (last_found-push calls Took));
  begun = ap (λ i. begun_sums i new.last) interval ∙ ap (begun_sums it.interval) last ∙ has.begun
      ∙ ap (option_map sums_found) (sym (open-same calls Took refl refl));
}

-- a condition that is true
has_true : (old new : PulledValue) (calls : List PulledValueCall) (at : ℕ) (now : Truth) → is_truth now ≡ true
    → new.last ≡ old.last → new.interval ≡ opened_by old.interval
    → HasSnapshots old calls → HasSnapshots new (calls ++ Learned at now ∷ [])
has_true old new calls at now holds last interval has = record {
  last = last ∙ has.last ∙ ap sums_found (sym (last_found-push calls (Learned at now)));
  begun = ap (λ i. begun_sums i new.last) interval ∙ ap (begun_sums (opened_by old.interval)) last
      ∙ begun_by old.interval old.last (open_by_calls calls) (last_found calls) has.last has.begun
      ∙ ap (option_map sums_found)
      (ap (λ b. open_after (open_by_calls calls) (record { holds = b; found = last_found calls })) (sym holds)
      ∙ sym (open-learned calls at now));
}

-- a condition that isn't
has_other : (old new : PulledValue) (calls : List PulledValueCall) (at : ℕ) (now : Truth) → is_truth now ≡ false
    → new.last ≡ old.last → new.interval ≡ Nothing
    → HasSnapshots old calls → HasSnapshots new (calls ++ Learned at now ∷ [])
has_other old new calls at now holds last interval has = record {
  last = last ∙ has.last ∙ ap sums_found (sym (last_found-push calls (Learned at now)));
  begun = ap (λ i. begun_sums i new.last) interval
      ∙ closed_by (open_by_calls calls) (last_found calls)
      ∙ ap (option_map sums_found)
      (ap (λ b. open_after (open_by_calls calls) (record { holds = b; found = last_found calls })) (sym holds)
      ∙ sym (open-learned calls at now));
}

-- a crossing
has_crossed : (old new : PulledValue) (calls : List PulledValueCall) (crossings : Crossings) → new.last ≡ old.last
    → new.interval ≡ opened_again old.interval
    → HasSnapshots old calls → HasSnapshots new (calls ++ Crossed crossings ∷ [])
has_crossed old new calls crossings last interval has = record {
  last = last ∙ has.last ∙ ap sums_found (sym (last_found-push calls (Crossed crossings)));
  begun = ap (λ i. begun_sums i new.last) interval ∙ ap (begun_sums (opened_again old.interval)) last
      ∙ begun_again old.interval old.last (open_by_calls calls) (last_found calls) has.last has.begun
      ∙ ap (option_map sums_found)
      (ap (λ b. if b then Some (last_found calls) else None) (open_while_held calls)
      ∙ sym (open-begins calls (Crossed crossings) crossings.first_end
      (ends_from (crossings.first_end + crossings.size) crossings.size crossings.full_buckets) refl refl));
}

-- a cut
has_cut : (old new : PulledValue) (calls : List PulledValueCall) (at : ℕ) → new.last ≡ old.last
    → new.interval ≡ opened_again old.interval
    → HasSnapshots old calls → HasSnapshots new (calls ++ CutAt at ∷ [])
has_cut old new calls at last interval has = record {
  last = last ∙ has.last ∙ ap sums_found (sym (last_found-push calls (CutAt at)));
  begun = ap (λ i. begun_sums i new.last) interval ∙ ap (begun_sums (opened_again old.interval)) last
      ∙ begun_again old.interval old.last (open_by_calls calls) (last_found calls) has.last has.begun
      ∙ ap (option_map sums_found)
      (ap (λ b. if b then Some (last_found calls) else None) (open_while_held calls)
      ∙ sym (open-begins calls (CutAt at) at [] refl refl));
}

-- what the interval gives that begins with each full bucket and ends with it
ending_again : (old mid : PulledValue) (params : PulledValueParams) (calls : List PulledValueCall) (end : ℕ)
    → old.spec ≡ params.spec → HasSnapshots old calls → ClosesPulled old mid end
    → ending_marks mid
    ≡ flat_map (interval_marks params.spec) (ended_with (open_after None (seen_after_calls calls)) (last_found calls))
ending_again old mid params calls end spec has closed =
    let last : mid.last ≡ sums_found (last_found calls) = ap (λ (p : PulledValue). p.last) closed.others ∙ has.last in
    let interval : mid.interval ≡ opened_again old.interval = ap (λ (p : PulledValue). p.interval) closed.others in
    let own : mid.spec ≡ params.spec = ap (λ (p : PulledValue). p.spec) closed.others ∙ spec in
    let open_now : Option (Option KeyedInts) = if is_told_true calls then Some (last_found calls) else None in
    let begun : begun_sums mid.interval mid.last ≡ option_map sums_found open_now =
    ap (λ i. begun_sums i mid.last) interval
    ∙ ap (begun_sums (opened_again old.interval)) (ap (λ (p : PulledValue). p.last) closed.others)
    ∙ begun_again old.interval old.last (open_by_calls calls) (last_found calls) has.last has.begun
    ∙ ap (λ b. option_map sums_found (if b then Some (last_found calls) else None)) (open_while_held calls) in
    ap (λ s. opened_marks s (begun_sums mid.interval mid.last) mid.last) own
    ∙ ap (λ b. opened_marks params.spec b mid.last) begun
    ∙ ap (opened_marks params.spec (option_map sums_found open_now)) last
    ∙ gives params.spec open_now (last_found calls)

-- where a producer has its snapshots and its books after a call, it stands for the calls with this one
pulled_moves : (old new : PulledValue) (call : PulledValueCall)
    → ((params : PulledValueParams) (calls : List PulledValueCall) (books : Books (MetricKey × ℤ))
    → HoldsDiffs old params books calls → IsAdmitted (pulled_value_demands params) calls call
    → HoldsDiffs new params (marks_on (calls_mean pulled_collecting) params books
    (call_marks pulled_collecting params calls call)) (calls ++ call ∷ []))
    → Moves pulled_law old new call
pulled_moves old new call step params calls has may =
    subst (λ books. HoldsDiffs new params books (calls ++ call ∷ []))
    (sym (books_by-push (calls_mean pulled_collecting) params calls call))
    (step params calls (pulled_mean params calls) has may)

-- a snapshot was told
pub pulled : (old : PulledValue) (at : ℕ) (event : SnapInts) (sums : Option KeyedInts)
    → sums ≡ sums_found (integers_found event)
    → Moves pulled_law old (record old { last = sums; interval = opened_before old.last old.interval }) (Got at event)
pulled old at event sums is =
    let new : PulledValue = record old { last = sums; interval = opened_before old.last old.interval } in
    pulled_moves old new (Got at event) (λ params calls books has may.
    record { spec = has.spec; held = has.held; snapshots = has_pulled old new calls at event is refl has.snapshots })

-- a condition was told that is true
pub learned_true : (old : PulledValue) (at : ℕ) (now : Truth) → is_truth now ≡ true
    → Moves pulled_law old (record old { interval = opened_by old.interval }) (Learned at now)
learned_true old at now holds =
    let new : PulledValue = record old { interval = opened_by old.interval } in
    pulled_moves old new (Learned at now) (λ params calls books has may.
    record {
      spec = has.spec;
      held = subst (λ b. HoldsBooks old.books (pulled_form params)
          (books_from (drops (form_kind (pulled_form params)) params.bound) books
          (flat_map (interval_marks params.spec)
          (ended_at_moment (open_by_calls calls) (record { holds = b; found = last_found calls })))))
          (sym holds) has.held;
      snapshots = has_true old new calls at now holds refl refl has.snapshots;
    })

-- a condition was told that isn't
pub learned_other : (old mid : PulledValue) (at : ℕ) (now : Truth) → is_truth now ≡ false
    → mid ≡ record old { books = mid.books } → TakesValueMarks old.books mid.books (ending_marks old)
    → Moves pulled_law old (record mid { interval = Nothing }) (Learned at now)
learned_other old mid at now holds others takes =
    let new : PulledValue = record mid { interval = Nothing } in
    pulled_moves old new (Learned at now) (λ params calls books has may.
    record {
      spec = ap (λ (p : PulledValue). p.spec) others ∙ has.spec;
      held = subst (λ b. HoldsBooks mid.books (pulled_form params)
          (books_from (drops (form_kind (pulled_form params)) params.bound) books
          (flat_map (interval_marks params.spec)
          (ended_at_moment (open_by_calls calls) (record { holds = b; found = last_found calls })))))
          (sym holds)
          (subst (λ marks. HoldsBooks mid.books (pulled_form params)
          (books_from (drops (form_kind (pulled_form params)) params.bound) books marks))
          (ending old params calls has.spec has.snapshots) (takes (pulled_form params) books has.held));
      snapshots = has_other old new calls at now holds (ap (λ (p : PulledValue). p.last) others) refl has.snapshots;
    })

-- the open part was cut
pub pulled_cuts : (old new : PulledValue) (at : ℕ) → ClosesPulled old new at → Moves pulled_law old new (CutAt at)
pulled_cuts old new at closed =
    pulled_moves old new (CutAt at) (λ params calls books has may.
    record {
      spec = ap (λ (p : PulledValue). p.spec) closed.others ∙ has.spec;
      held = subst (λ marks. HoldsBooks new.books (pulled_form params)
          (books_from (drops (form_kind (pulled_form params)) params.bound) books (marks ++ (Ends at ∷ []))))
          (ending old params calls has.spec has.snapshots) (closed.marks (pulled_form params) books has.held);
      snapshots = has_cut old new calls at (ap (λ (p : PulledValue). p.last) closed.others)
          (ap (λ (p : PulledValue). p.interval) closed.others) has.snapshots;
    })

-- what is kept was handed out
pub pulled_took : (old new : PulledValue) → new ≡ record old { books = new.books }
    → TakesMark old.books new.books Asked → Moves pulled_law old new Took
pulled_took old new others takes =
    pulled_moves old new Took (λ params calls books has may.
    record {
      spec = ap (λ (p : PulledValue). p.spec) others ∙ has.spec;
      held = takes (pulled_form params) books has.held;
      snapshots = has_same old new calls (ap (λ (p : PulledValue). p.last) others)
          (ap (λ (p : PulledValue). p.interval) others) has.snapshots;
    })

-- ends of buckets were crossed
pub pulled_crosses : (old mid new : PulledValue) (crossings : Crossings) → ClosesPulled old mid crossings.first_end
    → Jumps mid new crossings.size crossings.full_buckets → Moves pulled_law old new (Crossed crossings)
pulled_crosses old mid new crossings closed jumps =
    pulled_moves old new (Crossed crossings) (λ params calls books has may.
    let form = pulled_form params in
    let drop = drops (form_kind form) form.bound in
    let first = crossings.first_end in
    let size = crossings.size in
    let full = crossings.full_buckets in
    let edges = pulled_edges params calls in
    let later = ends_from (first + size) size full in
    let closing = flat_map (interval_marks params.spec) (ended_with (open_by_calls calls) (last_found calls)) in
    let again = flat_map (interval_marks params.spec)
    (ended_with (open_after None (seen_after_calls calls)) (last_found calls)) in
    let given = books_from drop books closing in
    let first_books : Books (MetricKey × ℤ) = books_from drop given (Ends first ∷ []) in
    let has_mid : HoldsBooks mid.books form first_books =
    subst (HoldsBooks mid.books form) (books-append drop books closing (Ends first ∷ []))
    (subst (λ marks. HoldsBooks mid.books form (books_from drop books (marks ++ (Ends first ∷ []))))
    (ending old params calls has.spec has.snapshots) (closed.marks form books has.held)) in
    let fits : last_end crossings < 2 ^ 63 = answer_fits (pulled_value_demands params) _ crossings may.0 in
    let has_new : HoldsBooks new.books form (books_from drop first_books (marks_again (ending_marks mid) size
    (first + size) full)) = jumps.marks form first_books refl fits has_mid in
    let rest : books_from drop first_books (marks_again (ending_marks mid) size (first + size) full)
    ≡ books_from drop books (boundary edges first ++ boundary_marks (edges_again edges) later) =
    ap (λ marks. books_from drop first_books (marks_again marks size (first + size) full))
    (ending_again old mid params calls first has.spec has.snapshots closed)
    ∙ ap (books_from drop first_books) (sym (boundaries_again edges later))
    ∙ ap (λ b. books_from drop b (boundary_marks (edges_again edges) later))
    (sym (books-append drop books closing (Ends first ∷ [])))
    ∙ sym (books-append drop books (boundary edges first) (boundary_marks (edges_again edges) later)) in
    let all : new ≡ record mid { books = new.books } = jumps.others in
    record {
      spec = ap (λ (p : PulledValue). p.spec) all ∙ ap (λ (p : PulledValue). p.spec) closed.others ∙ has.spec;
      held = subst (HoldsBooks new.books form) rest has_new;
      snapshots = has_crossed old new calls crossings
          (ap (λ (p : PulledValue). p.last) all ∙ ap (λ (p : PulledValue). p.last) closed.others)
          (ap (λ (p : PulledValue). p.interval) all ∙ ap (λ (p : PulledValue). p.interval) closed.others)
          has.snapshots;
    })

-- a part is closed by the end of its interval, its own end, and the beginning of the next interval
pub closes_part : (old mid new : PulledValue) (books : ValueBooks) (end : ℕ)
    → mid ≡ record old { books = mid.books } → TakesValueMarks old.books mid.books (ending_marks old)
    → TakesMark mid.books books (Ends end)
    → new ≡ record mid { books = books; interval = opened_again mid.interval } → ClosesPulled old new end
closes_part old mid new books end others ends closes is =
    subst (λ n. ClosesPulled old n end) (sym is) (record {
      others = ap (λ (m : PulledValue). record m { books = books; interval = opened_again m.interval }) others;
      marks = takes-append old.books mid.books books (ending_marks old) (Ends end ∷ []) ends closes;
    })

-- full buckets are closed by the end of the first one's interval, and what comes again in the others
pub jumps_by : (old mid : PulledValue) (books : ValueBooks) (since : Counts) (size number : ℕ)
    → mid ≡ record old { books = mid.books } → TakesValueMarks old.books mid.books (ending_marks old)
    → since.dropped ≡ old.books.table.dropped → since.missing ≡ old.books.missing
    → ClosesAgain mid.books books since size number → Jumps old (record mid { books = books }) size number
jumps_by old mid books since size number others ends dropped missing closes = record {
  others = ap (λ (m : PulledValue). record m { books = books }) others;
  marks = takes_again old.books mid.books books since size number dropped missing closes old.spec
      (begun_sums old.interval old.last) old.last ends;
}
