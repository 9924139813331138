-- Calls mean what steps mean for kinds whose marks hang on times: where these don't fall. Lemmas for proofs of kinds.
use Rattle.std.proofs.Common.{◌≡◌, ℕ, ◌≤◌, Bool, List, [], ◌∷◌, ◌++◌, refl, ap, sym, subst, ◌∙◌, append_assoc}
use Rattle.sd_base.specs.Outputs.{outputs, outputs_after}
use Rattle.sd_base.proofs.OutputsLemmas.{outputs_after-append, outputs-push}
use Rattle.atom_record.specs.declared.log.LogFrame.{LogFrame}
use Rattle.bucket_meaning.specs.Marks.{Mark}
use Rattle.metric_producer.specs.Calls.{Call}
use Rattle.metric_producer.specs.LaneCalls.{calls_of}
use Rattle.metric_producer.specs.Collecting.{Collecting, call_marks}
use Rattle.metric_meaning.specs.Histories.{What, Logged, Reported, Step}
use Rattle.metric_meaning.specs.StepMarks.{marks_at}
use Rattle.metric_meaning.specs.Ways.{shown_by_steps}
use Rattle.metric_calls.specs.Askings.{Asking, AreSameEdges, frame_step, steps_seen, asked_at, own_demands, calls_by_steps, calls_crossed, marks_after, shown_by_calls, IsMadeFor}
use Rattle.metric_calls.proofs.AskingsLemmas.{calls_of_step, calls_are, frame_marks, report_marks, shown_alike}

-- times of steps don't fall
abbrev pub DontGoBack : ℕ → List Step → Type 0
DontGoBack last [] = Unit {0}
DontGoBack last (step ∷ steps) = (last ≤ step.at) × DontGoBack step.at steps

-- the time of the last step, or the one before all
abbrev pub latest : ℕ → List Step → ℕ
latest last [] = last
latest last (step ∷ steps) = latest step.at steps

-- with one more step
pub latest-push : (last : ℕ) (steps : List Step) (step : Step) → latest last (steps ++ step ∷ []) ≡ step.at
latest-push last [] step = refl
latest-push last (first ∷ steps) step = latest-push first.at steps step

-- of steps whose times don't fall, those of the first don't
pub in_time-front : (last : ℕ) (steps more : List Step) → DontGoBack last (steps ++ more) → DontGoBack last steps
in_time-front last [] more all = tt
in_time-front last (step ∷ steps) more all = (all.0, in_time-front step.at steps more all.1)

-- and none of the others comes before them
pub in_time-back : (last : ℕ) (steps : List Step) (step : Step) → DontGoBack last (steps ++ step ∷ [])
    → latest last steps ≤ step.at
in_time-back last [] step all = all.0
in_time-back last (first ∷ steps) step all = in_time-back first.at steps step all.1

-- one more step in time
pub in_time-more : (last : ℕ) (steps more : List Step) (step : Step) → DontGoBack last (steps ++ step ∷ more)
    → DontGoBack last (steps ++ step ∷ [])
in_time-more last steps more step all =
    in_time-front last (steps ++ step ∷ []) more
    (subst (DontGoBack last) (sym (append_assoc steps (step ∷ []) more)) all)

module _ {Params News Event After X K C R : Type 0} (asking : Asking Params News Event After X K C R)
    (collecting : Collecting Params Event After X K C R) where
  -- Calls and steps agree where times don't fall: before the first step nothing is asked and nothing stands, what is
  -- asked at a frame has the marks that the frame brings, and the same stands at a boundary.
  pub record AgreesInTime : Type 0 where
    pub made : IsMadeFor asking collecting
    pub opens : asking.opens ≡ []
    pub begins : asking.way.shown.begins ≡ []
    pub at_frame : (before : List Step) (frame : LogFrame) (at : ℕ) (truths : List Bool)
        → DontGoBack 0 (before ++ frame_step frame at truths ∷ [])
        → marks_after asking collecting (calls_crossed asking collecting before frame at)
        (asked_at asking before frame at truths)
        ≡ asking.way.shown.comes before (frame_step frame at truths)
    pub at_boundary : (before : List Step)
        → AreSameEdges (collecting.edges asking.params (calls_by_steps asking collecting before))
        (asking.way.shown.edges before)

  module _ (agrees : AgreesInTime) where
    -- the calls of steps that are asked alone
    alone : (steps : List Step)
        → calls_by_steps asking collecting steps ≡ outputs (calls_of_step asking collecting) steps
    alone steps =
        ap (λ l. l ++ calls_of (own_demands asking collecting) asking.asks (steps_seen asking steps)) agrees.opens
        ∙ calls_are asking collecting steps

    -- the calls of one step have its marks
    one_step : (before : List Step) (at : ℕ) (what : What) (truths : List Bool)
        → let step : Step = record { at = at; what = what; truths = truths } in
        DontGoBack 0 (before ++ step ∷ [])
        → marks_after asking collecting (outputs (calls_of_step asking collecting) before)
        (calls_of_step asking collecting before step)
        ≡ marks_at asking.way.shown (own_demands asking collecting).base (own_demands asking collecting).size before
        step
    one_step before at (Logged frame) truths in_time =
        let step : Step = record { at = at; what = Logged frame; truths = truths } in
        ap (λ cs. marks_after asking collecting cs (calls_of_step asking collecting before step)) (sym (alone before))
        ∙ frame_marks asking collecting agrees.at_boundary before at frame truths
        (agrees.at_frame before frame at truths in_time)
    one_step before at (Reported include_current) truths in_time =
        let step : Step = record { at = at; what = Reported include_current; truths = truths } in
        ap (λ cs. marks_after asking collecting cs (calls_of_step asking collecting before step)) (sym (alone before))
        ∙ report_marks asking collecting agrees.at_boundary before at include_current truths

    -- the calls of all steps have theirs, where others came before
    all_steps : (before steps : List Step) → DontGoBack 0 (before ++ steps)
        → marks_after asking collecting (outputs (calls_of_step asking collecting) before)
        (outputs_after (calls_of_step asking collecting) before steps)
        ≡ outputs_after (marks_at asking.way.shown (own_demands asking collecting).base
        (own_demands asking collecting).size) before steps
    all_steps before [] in_time = refl
    all_steps before (step ∷ steps) in_time =
        let each = calls_of_step asking collecting in
        let marks : List Step → Step → List (Mark X) = marks_at asking.way.shown (own_demands asking collecting).base
        (own_demands asking collecting).size in
        let rest = outputs_after each (before ++ step ∷ []) steps in
        outputs_after-append (call_marks collecting asking.params) (outputs each before) (each before step) rest
        ∙ ap (λ l. l ++ marks_after asking collecting (outputs each before ++ each before step) rest)
        (one_step before step.at step.what step.truths (in_time-more 0 before steps step in_time))
        ∙ ap (λ cs. marks before step ++ marks_after asking collecting cs rest) (sym (outputs-push each before step))
        ∙ ap (λ l. marks before step ++ l)
        (all_steps (before ++ step ∷ []) steps
        (subst (DontGoBack 0) (sym (append_assoc before (step ∷ []) steps)) in_time))

    -- The law: what a report shows by the calls of steps whose times don't fall is what it shows by the steps.
    pub calls_mean_in_time : (steps : List Step) (include_current : Bool) (now : ℕ) → DontGoBack 0 steps
        → shown_by_calls asking collecting steps include_current now
        ≡ shown_by_steps asking.way steps include_current now
    calls_mean_in_time steps include_current now in_time =
        shown_alike asking collecting agrees.at_boundary agrees.made steps include_current now
        (ap (marks_after asking collecting []) (alone steps) ∙ all_steps [] steps in_time
        ∙ ap (λ l. l ++ outputs (marks_at asking.way.shown (own_demands asking collecting).base
        (own_demands asking collecting).size) steps) (sym agrees.begins))
