-- Calls mean what steps mean, for every kind of metric: lemmas on `specs/Askings.antt`, for proofs of kinds and lanes.
use Rattle.std.proofs.Common.{◌≡◌, ℕ, zero, suc, ◌+◌, Bool, true, false, if◌then◌else◌, List, [], ◌∷◌, ◌++◌, length, refl, ap, sym, subst, ◌∙◌, append_assoc}
use Rattle.std.specs.Prelude.{nat_lt}
use Rattle.std.proofs.lemmas.List.{append-nil}
use Rattle.sd_base.specs.Outputs.{outputs, outputs_after}
use Rattle.sd_base.proofs.OutputsLemmas.{outputs_after-append, outputs-push, outputs-through}
use Rattle.atom_record.specs.declared.log.LogFrame.{LogFrame}
use Rattle.bucket_meaning.specs.Ends.{Moment, ends_from, ends_at}
use Rattle.bucket_meaning.specs.Marks.{Mark, Asked, Edges, edges_again, boundary, boundary_marks}
use Rattle.bucket_meaning.specs.Rows.{report}
use Rattle.bucket_clock.specs.Clock.{boundaries, last_time, moments_told}
use Rattle.metric_producer.specs.Calls.{Call, CutAt, Took}
use Rattle.metric_producer.specs.LaneCalls.{LaneStep, told_by, crossing_of, cutting, calls_at, calls_of}
use Rattle.metric_producer.specs.OpeningCalls.{AskWell}
use Rattle.metric_producer.proofs.LaneReach.{length-ends_from}
use Rattle.metric_producer.specs.Collecting.{Collecting, call_marks}
use Rattle.metric_meaning.specs.Histories.{What, Logged, Reported, Step, moment_of}
use Rattle.metric_calls.specs.LaneSteps.{lane_step}
use Rattle.metric_meaning.specs.StepMarks.{moments, crossed_at, cut_marks, marks_at, marks_of, marks_to}
use Rattle.metric_meaning.specs.Ways.{shown_by_steps}
use Rattle.metric_calls.specs.Askings.{Asking, AreSameEdges, steps_seen, asked_at, own_demands, calls_by_steps, calls_crossed, AsksWell, IsMadeFor, marks_after, shown_by_calls, Agrees}
use Rattle.metric_calls.proofs.CrossedLemmas.{ends_at-neighbours}
use Rattle.metric_calls.proofs.StepLemmas.{lane_step_after, told_by-steps}

-- one boundary has the same marks, where the same stands at it
same_boundary : {X : Type 0} (edges others : Edges X) (at : ℕ) → AreSameEdges edges others
    → boundary edges at ≡ boundary others at
same_boundary edges others at same =
    ap (λ l. l ++ boundary (record edges { closing = λ t. [] }) at) (same.closing at)
    ∙ ap (λ l. others.closing at ++ boundary (record edges { closing = λ t. []; opening = λ t. l }) at)
    (same.opening at)

-- several boundaries have the same marks, where the same stands at them
same_boundaries : {X : Type 0} (edges others : Edges X) (ends : List ℕ) → AreSameEdges edges others
    → boundary_marks edges ends ≡ boundary_marks others ends
same_boundaries edges others [] same = refl
same_boundaries edges others (at ∷ ends) same =
    ap (λ l. l ++ boundary_marks (edges_again edges) ends) (same_boundary edges others at same)
    ∙ ap (λ l. boundary others at ++ l) (same_boundaries (edges_again edges) (edges_again others) ends (record {
      closing = same.closing_again;
      closing_again = same.closing_again;
      opening = same.opening;
    }))

-- what elements give that come after a front, as it is given without the front
outputs_after-front : {A B : Type 0} (gives : List A → A → List B) (front before xs : List A)
    → outputs_after gives (front ++ before) xs ≡ outputs_after (λ seen x. gives (front ++ seen) x) before xs
outputs_after-front gives front before [] = refl
outputs_after-front gives front before (x ∷ xs) =
    ap (λ b. gives (front ++ before) x ++ outputs_after gives b xs) (append_assoc front before (x ∷ []))
    ∙ ap (λ l. gives (front ++ before) x ++ l) (outputs_after-front gives front (before ++ x ∷ []) xs)

module _ {Params News Event After X K C R : Type 0} (asking : Asking Params News Event After X K C R)
    (collecting : Collecting Params Event After X K C R) where
  -- the calls of one step, knowing the steps before
  abbrev pub calls_of_step : List Step → Step → List (Call Event After)
  calls_of_step before step =
      calls_at (own_demands asking collecting) asking.asks (steps_seen asking before)
      (lane_step (asking.news before) step)

  -- the calls of all steps are those of each
  pub calls_are : (steps : List Step)
      → calls_of (own_demands asking collecting) asking.asks (steps_seen asking steps) ≡ outputs calls_of_step steps
  calls_are steps =
      outputs-through (lane_step_after asking.news) (calls_at (own_demands asking collecting) asking.asks) calls_of_step
      (λ before step. append-nil (calls_of_step before step)) steps

  -- what is asked is well at the steps, where others came before
  asks_after : (well : AsksWell asking collecting) (before steps : List Step)
      → AskWell (own_demands asking collecting) asking.asks asking.opens (steps_seen asking before)
      (outputs_after (lane_step_after asking.news) before steps)
  asks_after well before [] = tt
  asks_after well before (step ∷ steps) =
      at_step step.at step.what step.truths
      (subst (λ seen. AskWell (own_demands asking collecting) asking.asks asking.opens seen
      (outputs_after (lane_step_after asking.news) (before ++ step ∷ []) steps))
      (outputs-push (lane_step_after asking.news) before step) (asks_after well (before ++ step ∷ []) steps))
    where
      others : List (LaneStep News)
      others = outputs_after (lane_step_after asking.news) (before ++ step ∷ []) steps

      at_step : (at : ℕ) (what : What) (truths : List Bool)
          → let step : Step = record { at = at; what = what; truths = truths } in
          AskWell (own_demands asking collecting) asking.asks asking.opens
          (steps_seen asking before ++ lane_step (asking.news before) step ∷ []) others
          → AskWell (own_demands asking collecting) asking.asks asking.opens (steps_seen asking before)
          (lane_step (asking.news before) step ∷ others)
      at_step at (Logged frame) truths rest = (well.at_frame before frame at truths, rest)
      at_step at (Reported include_current) truths rest = rest

  -- what is asked is well at all steps
  pub asks_well : AsksWell asking collecting → (steps : List Step)
      → AskWell (own_demands asking collecting) asking.asks asking.opens [] (steps_seen asking steps)
  asks_well well steps = asks_after well [] steps

  -- What opening calls and all calls give is what the opening calls give, and then what each step does, where the calls
  -- of one step give that.
  pub calls-give : {B : Type 0} (gives : List (Call Event After) → Call Event After → List B)
      (at_step : List Step → Step → List B)
      → ((before : List Step) (step : Step)
      → outputs_after gives (calls_by_steps asking collecting before) (calls_of_step before step)
      ≡ at_step before step)
      → (steps : List Step)
      → outputs gives (calls_by_steps asking collecting steps)
      ≡ outputs gives asking.opens ++ outputs at_step steps
  calls-give {B} gives at_step one steps =
      let behind : List (Call Event After) → Call Event After → List B =
      λ seen call. gives (asking.opens ++ seen) call in
      let calls = calls_of (own_demands asking collecting) asking.asks (steps_seen asking steps) in
      outputs_after-append gives [] asking.opens calls
      ∙ ap (λ l. outputs gives asking.opens ++ l)
      (ap (outputs_after gives asking.opens) (calls_are steps)
      ∙ ap (λ o. outputs_after gives o (outputs calls_of_step steps)) (sym (append-nil asking.opens))
      ∙ outputs_after-front gives asking.opens [] (outputs calls_of_step steps)
      ∙ outputs-through calls_of_step behind at_step
      (λ before step. sym (outputs_after-front gives asking.opens (outputs calls_of_step before)
      (calls_of_step before step))
      ∙ ap (λ seen. outputs_after gives (asking.opens ++ seen) (calls_of_step before step)) (sym (calls_are before))
      ∙ one before step) steps)

  -- the marks of a producer's call
  abbrev marks_of_call : List (Call Event After) → Call Event After → List (Mark X)
  marks_of_call = call_marks collecting asking.params

  -- what stands at a boundary after these calls
  abbrev edges_after : List (Call Event After) → Edges X
  edges_after before = collecting.edges asking.params before

  -- the one call for neighbours has the marks of their ends
  crossing_marks : (before : List (Call Event After)) (start size first count : ℕ) (ends : List ℕ)
      → ends ≡ ends_from first size count
      → marks_after asking collecting before (crossing_of start size ends)
      ≡ boundary_marks (edges_after before) ends
  crossing_marks before start size first zero ends are =
      subst (λ l. marks_after asking collecting before (crossing_of start size l)
      ≡ boundary_marks (edges_after before) l) (sym are) refl
  crossing_marks before start size first (suc count) ends are =
      let others = ends_from (first + size) size count in
      subst (λ l. marks_after asking collecting before (crossing_of start size l)
      ≡ boundary_marks (edges_after before) l) (sym are)
      (append-nil (boundary_marks (edges_after before) (ends_from first size (suc (length others))))
      ∙ ap (λ n. boundary_marks (edges_after before) (ends_from first size (suc n)))
      (length-ends_from (first + size) size count))

  -- the call for a cut has the marks of its end
  cut_if : (before : List (Call Event After)) (at : ℕ) (sized : Bool)
      → marks_after asking collecting before (if sized then CutAt at ∷ [] else [])
      ≡ (if sized then boundary (edges_after before) at else [])
  cut_if before at true = append-nil (boundary (edges_after before) at)
  cut_if before at false = refl

  same_if : (edges others : Edges X) (at : ℕ) (sized : Bool) → AreSameEdges edges others
      → (if sized then boundary edges at else []) ≡ (if sized then boundary others at else [])
  same_if edges others at true same = same_boundary edges others at same
  same_if edges others at false same = refl

  -- the calls for a cut have the marks of the cut
  cutting_marks : (before : List (Call Event After)) (edges : Edges X) (size : ℕ) (include_current : Bool) (at : ℕ)
      → AreSameEdges (edges_after before) edges
      → marks_after asking collecting before (cutting size include_current at)
      ≡ cut_marks edges size include_current at
  cutting_marks before edges size true at same =
      cut_if before at (nat_lt 0 size) ∙ same_if (edges_after before) edges at (nat_lt 0 size) same
  cutting_marks before edges size false at same = refl

  -- The same stands at boundaries by calls and by steps.
  module _ (edges : (before : List Step)
      → AreSameEdges (edges_after (calls_by_steps asking collecting before)) (asking.way.shown.edges before)) where
    -- the calls of a frame have the marks of its step, where what is asked has those that it brings
    pub frame_marks : (before : List Step) (at : ℕ) (frame : LogFrame) (truths : List Bool)
        → let step : Step = record { at = at; what = Logged frame; truths = truths } in
        marks_after asking collecting (calls_crossed asking collecting before frame at)
        (asked_at asking before frame at truths)
        ≡ asking.way.shown.comes before step
        → marks_after asking collecting (calls_by_steps asking collecting before) (calls_of_step before step)
        ≡ marks_at asking.way.shown (own_demands asking collecting).base (own_demands asking collecting).size before
        step
    frame_marks before at frame truths comes =
        let step : Step = record { at = at; what = Logged frame; truths = truths } in
        let base = (own_demands asking collecting).base in
        let size = (own_demands asking collecting).size in
        let moment : Moment = moment_of frame at in
        let told = told_by (steps_seen asking before) in
        let seen = calls_by_steps asking collecting before in
        let ends = ends_at base size (moments_told told) moment in
        let start = last_time base (boundaries base size told) in
        let crossed : List (Call Event After) = crossing_of start size ends in
        let asked = asked_at asking before frame at truths in
        let are = ends_at-neighbours base size (moments_told told) moment in
        let before_is : ends ≡ crossed_at base size before step =
        ap (λ seen_before. ends_at base size seen_before moment) (told_by-steps asking.news before)
        ∙ sym (append-nil (ends_at base size (moments before) moment)) in
        let at_ends : marks_after asking collecting seen crossed
        ≡ boundary_marks (asking.way.shown.edges before) (crossed_at base size before step) =
        crossing_marks seen start size are.first are.count ends are.are
        ∙ same_boundaries (edges_after seen) (asking.way.shown.edges before) ends (edges before)
        ∙ ap (boundary_marks (asking.way.shown.edges before)) before_is in
        outputs_after-append marks_of_call seen crossed asked
        ∙ ap (λ l. l ++ marks_after asking collecting (seen ++ crossed) asked) at_ends
        ∙ ap (λ l. boundary_marks (asking.way.shown.edges before) (crossed_at base size before step) ++ l) comes

    -- and those of a report those of its step
    pub report_marks : (before : List Step) (at : ℕ) (include_current : Bool) (truths : List Bool)
        → let step : Step = record { at = at; what = Reported include_current; truths = truths } in
        marks_after asking collecting (calls_by_steps asking collecting before) (calls_of_step before step)
        ≡ marks_at asking.way.shown (own_demands asking collecting).base (own_demands asking collecting).size before
        step
    report_marks before at include_current truths =
        let seen = calls_by_steps asking collecting before in
        let size = (own_demands asking collecting).size in
        outputs_after-append marks_of_call seen (cutting size include_current at) (Took ∷ [])
        ∙ ap (λ l. l ++ (Asked ∷ []))
        (cutting_marks seen (asking.way.shown.edges before) size include_current at (edges before))

    -- what is shown by calls is what is shown by steps, where the calls have the marks of the steps
    pub shown_alike : IsMadeFor asking collecting → (steps : List Step) (include_current : Bool) (now : ℕ)
        → marks_after asking collecting [] (calls_by_steps asking collecting steps)
        ≡ marks_of asking.way.shown (own_demands asking collecting).base (own_demands asking collecting).size steps
        → shown_by_calls asking collecting steps include_current now
        ≡ shown_by_steps asking.way steps include_current now
    shown_alike made steps include_current now marks =
        let base = (own_demands asking collecting).base in
        let size = (own_demands asking collecting).size in
        let way = asking.way in
        let calls = calls_by_steps asking collecting steps in
        let cut : List (Call Event After) = cutting size include_current now in
        ap (report (collecting.kind asking.params) (collecting.bound asking.params) base)
        (outputs_after-append marks_of_call [] calls cut
        ∙ ap (λ l. l ++ marks_after asking collecting calls cut) marks
        ∙ ap (λ l. marks_of asking.way.shown base size steps ++ l)
        (cutting_marks calls (asking.way.shown.edges steps) size include_current now (edges steps)))
        ∙ ap (λ kind. report kind (collecting.bound asking.params) base
        (marks_to asking.way.shown base size steps include_current now)) made.kind
        ∙ ap (λ bound. report way.kind bound base (marks_to way.shown base size steps include_current now)) made.bound
        ∙ ap (λ b. report way.kind way.bound b (marks_to way.shown b size steps include_current now)) made.base
        ∙ ap (λ s. report way.kind way.bound way.base (marks_to way.shown way.base s steps include_current now))
        made.size

  module _ (agrees : Agrees asking collecting) where
    -- the calls of one step have the marks of the step
    step_marks : (before : List Step) (at : ℕ) (what : What) (truths : List Bool)
        → let step : Step = record { at = at; what = what; truths = truths } in
        marks_after asking collecting (calls_by_steps asking collecting before) (calls_of_step before step)
        ≡ marks_at asking.way.shown (own_demands asking collecting).base (own_demands asking collecting).size before
        step
    step_marks before at (Logged frame) truths =
        frame_marks agrees.at_boundary before at frame truths (agrees.at_frame before frame at truths)
    step_marks before at (Reported include_current) truths =
        report_marks agrees.at_boundary before at include_current truths

    -- opening calls and all calls have the marks of the beginning and of the steps
    pub calls-marks : (steps : List Step)
        → marks_after asking collecting [] (calls_by_steps asking collecting steps)
        ≡ marks_of asking.way.shown (own_demands asking collecting).base (own_demands asking collecting).size steps
    calls-marks steps =
        let base = (own_demands asking collecting).base in
        let size = (own_demands asking collecting).size in
        calls-give marks_of_call (marks_at asking.way.shown base size)
        (λ before step. step_marks before step.at step.what step.truths) steps
        ∙ ap (λ l. l ++ outputs (marks_at asking.way.shown base size) steps) agrees.opens

    -- The law: what a report shows by the calls of these steps, up to its cut, is what it shows by the steps.
    pub calls_mean_steps : (steps : List Step) (include_current : Bool) (now : ℕ)
        → shown_by_calls asking collecting steps include_current now
        ≡ shown_by_steps asking.way steps include_current now
    calls_mean_steps steps include_current now =
        shown_alike agrees.at_boundary agrees.made steps include_current now (calls-marks steps)
