-- What each call makes of a pulled gauge.
use Rattle.std.proofs.Common.{◌≡◌, ℕ, ◌+◌, List, [], ◌∷◌, ◌++◌, Option, Some, None, refl, sym, ap, subst, ◌∙◌, append-nil}
use Rattle.std.specs.List.{flat_map, last_or}
use Rattle.std.specs.Option.{unwrap_or}
use Rattle.std.proofs.lemmas.Grind.{flat_map-append}
use Rattle.atom_record.specs.declared.atom.Atom.{Atom}
use Rattle.atom_record.specs.declared.value.MetricKey.{MetricKey}
use Rattle.bucket_clock.specs.declared.crossings.Crossings.{Crossings}
use Rattle.bucket_meaning.specs.Ends.{ends_from}
use Rattle.bucket_meaning.specs.Marks.{Ends, Edges, Books, books_from, boundary_marks, edges_again}
use Rattle.bucket_meaning.specs.Rows.{drops}
use Rattle.bucket_meaning.specs.Meaning.{marks_on, books_by}
use Rattle.bucket_meaning.proofs.MarksLemmas.{books-append}
use Rattle.bucket_meaning.proofs.MeaningLemmas.{books_by-push}
use Rattle.kept_rows.specs.KeptRows.{Keeping, IsKept}
use Rattle.predicate_state.specs.declared.truth.Truth.{Truth}
use Rattle.metric_producer.specs.declared.row.Row.{Row}
use Rattle.metric_producer.specs.Calls.{Got, Learned, Crossed, CutAt, Took}
use Rattle.metric_producer.specs.Rules.{IsAdmitted}
use Rattle.metric_producer.specs.Collecting.{call_marks, calls_mean}
use Rattle.metric_producer.specs.Moves.{Moves}
use Rattle.metric_producer.proofs.RuleLemmas.{answer_fits}
use Rattle.metric_kinds.specs.Gauges.{samples_weight, gauge_kind}
use Rattle.metric_kinds.proofs.JumpLemmas.{boundaries_again}
use Rattle.gauge_metric.specs.declared.gauge.KeyedAtom.{KeyedAtom}
use Rattle.gauge_metric.specs.declared.snapshot.SnapAtoms.TheVariants.{Snapshot, Trigger}
use Rattle.gauge_metric.specs.declared.pulled.Brought.{Brought}
use Rattle.gauge_metric.specs.declared.pulled.PulledGauge.{PulledGauge}
use Rattle.gauge_metric.specs.PulledSampling.{PulledGaugeParams, PulledGaugeCall, snapshots_in, truths_in, last_snapshot, last_condition, is_start_moment, is_told_moment, is_trigger_moment, marks_if, part_edges, pulled_gauge_demands, pulled_collecting}
use Rattle.gauge_metric.specs.PulledStands.{HoldsSampled, PulledGaugeStandsFor, pulled_law, after_marks, AreBrought, TakesSampleMarks, BeginsPart, RepeatsPart}
use Rattle.gauge_metric.proofs.PulledLemmas.{told_anew, opening_again, repeats}

-- the last of some and then others
last_or-append : {A : Type 0} (last : Option A) (items more : List A)
    → last_or last (items ++ more) ≡ last_or (last_or last items) more
last_or-append last [] more = refl
last_or-append last (item ∷ items) more = last_or-append (Some item) items more

-- what was told last, after one more call
told_push : {A : Type 0} (tells : PulledGaugeCall → List A) (calls : List PulledGaugeCall) (call : PulledGaugeCall)
    → last_or None (flat_map tells (calls ++ call ∷ []))
    ≡ last_or (last_or None (flat_map tells calls)) (tells call)
told_push tells calls call =
    ap (last_or None) (flat_map-append tells calls (call ∷ [])
    ∙ ap (λ later. flat_map tells calls ++ later) (append-nil (tells call)))
    ∙ last_or-append None (flat_map tells calls) (tells call)

-- the condition that was told last, after one more call
pub truth_push : (calls : List PulledGaugeCall) (call : PulledGaugeCall)
    → last_condition (calls ++ call ∷ []) ≡ last_or (last_condition calls) (truths_in call)
truth_push calls call = told_push truths_in calls call

-- the snapshot that was told last, after one more call
pub snapshot_push : (calls : List PulledGaugeCall) (call : PulledGaugeCall)
    → last_snapshot (calls ++ call ∷ [])
    ≡ unwrap_or (last_or (last_or None (flat_map snapshots_in calls)) (snapshots_in call)) None
snapshot_push calls call = ap (λ last. unwrap_or last None) (told_push snapshots_in calls call)

-- From books to calls: a call owes what it makes of the books, and what it tells.
pub pulled_moves : (old new : PulledGauge) (call : PulledGaugeCall)
    → ((params : PulledGaugeParams) (calls : List PulledGaugeCall) → PulledGaugeStandsFor old params calls
    → IsAdmitted (pulled_gauge_demands params) calls call
    → HoldsSampled new params (marks_on (calls_mean pulled_collecting) params
    (books_by (calls_mean pulled_collecting) params calls) (call_marks pulled_collecting params calls call)))
    → ((calls : List PulledGaugeCall) → old.snapshot ≡ last_snapshot calls
    → new.snapshot ≡ unwrap_or (last_or (last_or None (flat_map snapshots_in calls)) (snapshots_in call)) None)
    → ((calls : List PulledGaugeCall) → old.told ≡ last_condition calls
    → new.told ≡ last_or (last_condition calls) (truths_in call))
    → Moves pulled_law old new call
pulled_moves old new call books snapshot told params calls stands may = record {
  books = subst (HoldsSampled new params) (sym (books_by-push (calls_mean pulled_collecting) params calls call))
      (books params calls stands may);
  snapshot = snapshot calls stands.snapshot ∙ sym (snapshot_push calls call);
  told = told calls stands.told ∙ sym (truth_push calls call);
}

-- a snapshot was told, or that there is none
pub snapshot_told : (old : PulledGauge) (at : ℕ) (found : Option (List KeyedAtom))
    → Moves pulled_law old (record old { snapshot = found }) (Got at (Snapshot found))
snapshot_told old at found =
    pulled_moves old (record old { snapshot = found }) (Got at (Snapshot found))
    (λ params calls stands may.
    told_anew old old.told found params (books_by (calls_mean pulled_collecting) params calls) stands.books)
    (λ calls is. refl) (λ calls is. is)

-- an atom of the trigger came
pub triggered : (old new : PulledGauge) (at : ℕ)
    → TakesSampleMarks old new (marks_if (is_trigger_moment old.mode old.told) old.snapshot)
    → Moves pulled_law old new (Got at Trigger)
triggered old new at takes =
    pulled_moves old new (Got at Trigger)
    (λ params calls stands may.
    let books = books_by (calls_mean pulled_collecting) params calls in
    let marks : marks_if (is_trigger_moment old.mode old.told) old.snapshot
    ≡ marks_if (is_trigger_moment params.spec.mode (last_condition calls)) (last_snapshot calls) =
    ap (λ mode. marks_if (is_trigger_moment mode old.told) old.snapshot) stands.books.mode
    ∙ ap (λ told. marks_if (is_trigger_moment params.spec.mode told) old.snapshot) stands.told
    ∙ ap (marks_if (is_trigger_moment params.spec.mode (last_condition calls))) stands.snapshot in
    subst (λ more. HoldsSampled new params (after_marks params books more)) marks
    (takes.holds params books stands.books))
    (λ calls is. takes.snapshot ∙ is) (λ calls is. takes.told ∙ is)

-- the condition was told
pub condition_told : (old new : PulledGauge) (at : ℕ) (now : Truth)
    → TakesSampleMarks (record old { told = Some now }) new
    (marks_if (is_told_moment old.mode old.told now) old.snapshot)
    → Moves pulled_law old new (Learned at now)
condition_told old new at now takes =
    pulled_moves old new (Learned at now)
    (λ params calls stands may.
    let books = books_by (calls_mean pulled_collecting) params calls in
    let marks : marks_if (is_told_moment old.mode old.told now) old.snapshot
    ≡ marks_if (is_told_moment params.spec.mode (last_condition calls) now) (last_snapshot calls) =
    ap (λ mode. marks_if (is_told_moment mode old.told now) old.snapshot) stands.books.mode
    ∙ ap (λ told. marks_if (is_told_moment params.spec.mode told now) old.snapshot) stands.told
    ∙ ap (marks_if (is_told_moment params.spec.mode (last_condition calls) now)) stands.snapshot in
    subst (λ more. HoldsSampled new params (after_marks params books more)) marks
    (takes.holds params books (told_anew old (Some now) old.snapshot params books stands.books)))
    (λ calls is. takes.snapshot ∙ is) (λ calls is. takes.told)

-- the marks with which the next part begins, once the open one was closed
begin_marks : (old mid : PulledGauge) (params : PulledGaugeParams) (calls : List PulledGaugeCall) → mid.mode ≡ old.mode
    → mid.told ≡ old.told → mid.snapshot ≡ old.snapshot → PulledGaugeStandsFor old params calls
    → marks_if (is_start_moment mid.mode mid.told) mid.snapshot
    ≡ marks_if (is_start_moment params.spec.mode (last_condition calls)) (last_snapshot calls)
begin_marks old mid params calls mode told snapshot stands =
    ap (λ m. marks_if (is_start_moment m mid.told) mid.snapshot) (mode ∙ stands.books.mode)
    ∙ ap (λ t. marks_if (is_start_moment params.spec.mode t) mid.snapshot) (told ∙ stands.told)
    ∙ ap (marks_if (is_start_moment params.spec.mode (last_condition calls))) (snapshot ∙ stands.snapshot)

-- the open part was cut, and the next began
pub pulled_cut : (old mid new : PulledGauge) (at : ℕ) (brought : Brought) → TakesSampleMarks old mid (Ends at ∷ [])
    → BeginsPart mid new brought → Moves pulled_law old new (CutAt at)
pulled_cut old mid new at brought closed begun =
    pulled_moves old new (CutAt at)
    (λ params calls stands may.
    let books = books_by (calls_mean pulled_collecting) params calls in
    subst (λ more. HoldsSampled new params (after_marks params (after_marks params books (Ends at ∷ [])) more))
    (begin_marks old mid params calls closed.mode closed.told closed.snapshot stands)
    (begun.takes.holds params (after_marks params books (Ends at ∷ [])) (closed.holds params books stands.books)))
    (λ calls is. begun.takes.snapshot ∙ closed.snapshot ∙ is)
    (λ calls is. begun.takes.told ∙ closed.told ∙ is)

-- ends of buckets were crossed
pub pulled_crossed : (old mid begun new : PulledGauge) (crossings : Crossings) (brought : Brought)
    → TakesSampleMarks old mid (Ends crossings.first_end ∷ []) → BeginsPart mid begun brought
    → RepeatsPart begun new crossings brought → Moves pulled_law old new (Crossed crossings)
pulled_crossed old mid begun new crossings brought closed begins repeated =
    pulled_moves old new (Crossed crossings)
    (λ params calls stands may.
    let drop = drops (gauge_kind params.spec.samples) params.bound in
    let books : Books (MetricKey × Atom) = books_by (calls_mean pulled_collecting) params calls in
    let first = crossings.first_end in
    let next : Books (MetricKey × Atom) = after_marks params books (Ends first ∷ []) in
    let marks = marks_if (is_start_moment params.spec.mode (last_condition calls)) (last_snapshot calls) in
    let same = begin_marks old mid params calls closed.mode closed.told closed.snapshot stands in
    let has_mid : HoldsSampled mid params next = closed.holds params books stands.books in
    let has_begun : HoldsSampled begun params (after_marks params next marks) =
    subst (λ more. HoldsSampled begun params (after_marks params next more)) same
    (begins.takes.holds params next has_mid) in
    let are : AreBrought params marks brought =
    subst (λ more. AreBrought params more brought) same (begins.brought_are params next has_mid refl) in
    let again = opening_again params.spec.samples params.bound
    (is_start_moment params.spec.mode (last_condition calls)) (last_snapshot calls) in
    let ends = ends_from (first + crossings.size) crossings.size crossings.full_buckets in
    let edges : Edges (MetricKey × Atom) = part_edges params.spec.mode (last_condition calls) (last_snapshot calls) in
    let later : boundary_marks (edges_again edges) ends ≡ flat_map (λ at. Ends at ∷ marks) ends =
    boundaries_again edges ends in
    subst (HoldsSampled new params)
    (sym (books-append drop next marks (boundary_marks (edges_again edges) ends)
    ∙ ap (books_from drop (after_marks params next marks)) later))
    (repeats begun new crossings brought params marks next.closed next.dropped next.missing again has_begun are repeated
    (answer_fits (pulled_gauge_demands params) _ crossings may.0)))
    (λ calls is. ap (λ (it : PulledGauge). it.snapshot) repeated.rest ∙ begins.takes.snapshot ∙ closed.snapshot ∙ is)
    (λ calls is. ap (λ (it : PulledGauge). it.told) repeated.rest ∙ begins.takes.told ∙ closed.told ∙ is)

-- what is kept was handed out
pub pulled_took : (old : PulledGauge) (kept : Keeping (Row (List Atom)))
    → ((weigh : Row (List Atom) → ℕ) → IsKept weigh [] kept)
    → Moves pulled_law old (record old { kept = kept; dropped = 0; missing = 0 }) Took
pulled_took old kept anew =
    pulled_moves old (record old { kept = kept; dropped = 0; missing = 0 }) Took
    (λ params calls stands may.
    let has = stands.books in
    record {
      bound = has.bound;
      samples = has.samples;
      some = has.some;
      mode = has.mode;
      start = has.start;
      table = has.table;
      kept = anew samples_weight;
      dropped = refl;
      missing = refl;
    })
    (λ calls is. is) (λ calls is. is)
