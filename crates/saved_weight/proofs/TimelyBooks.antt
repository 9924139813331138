-- What a producer's calls leave open and closed is what a metric has after its steps, where times don't fall.
use Rattle.std.proofs.Common.{◌≡◌, ℕ, Bool, List, [], ◌∷◌, ◌++◌, refl, ap, sym, subst, ◌∙◌, append_assoc}
use Rattle.sd_base.specs.Outputs.{outputs, outputs_after}
use Rattle.sd_base.proofs.OutputsLemmas.{outputs_after-append, outputs-push}
use Rattle.bucket_meaning.specs.Marks.{Mark}
use Rattle.metric_producer.specs.LaneCalls.{calls_of}
use Rattle.metric_producer.specs.Collecting.{Collecting, call_marks}
use Rattle.metric_meaning.specs.Histories.{What, Logged, Reported, Step}
use Rattle.metric_meaning.specs.StepMarks.{marks_at}
use Rattle.metric_calls.specs.Askings.{Asking, steps_seen, own_demands, calls_by_steps, marks_after}
use Rattle.metric_calls.proofs.AskingsLemmas.{calls_of_step, calls_are, frame_marks, report_marks}
use Rattle.bucket_meaning.specs.Meaning.{books_by}
use Rattle.metric_producer.specs.Collecting.{calls_mean}
use Rattle.metric_calls.proofs.TimelyLemmas.{DontGoBack, in_time-more, AgreesInTime}
use Rattle.saved_weight.proofs.BooksLaws.{marks_leave}
use Rattle.saved_weight.specs.WayBooks.{own_books}

module _ {Params News Event After X K C R : Type 0} (asking : Asking Params News Event After X K C R)
    (collecting : Collecting Params Event After X K C R) where
  module _ (agrees : AgreesInTime asking collecting) where
    -- the calls of steps that are asked alone
    alone : (steps : List Step)
        → calls_by_steps asking collecting steps ≡ outputs (calls_of_step asking collecting) steps
    alone steps =
        ap (λ l. l ++ calls_of (own_demands asking collecting) asking.asks (steps_seen asking steps)) agrees.opens
        ∙ calls_are asking collecting steps

    -- the calls of one step have its marks
    one_step : (before : List Step) (at : ℕ) (what : What) (truths : List Bool)
        → let step : Step = record { at = at; what = what; truths = truths } in
        DontGoBack 0 (before ++ step ∷ [])
        → marks_after asking collecting (outputs (calls_of_step asking collecting) before)
        (calls_of_step asking collecting before step)
        ≡ marks_at asking.way.shown (own_demands asking collecting).base (own_demands asking collecting).size before
        step
    one_step before at (Logged frame) truths in_time =
        let step : Step = record { at = at; what = Logged frame; truths = truths } in
        ap (λ cs. marks_after asking collecting cs (calls_of_step asking collecting before step)) (sym (alone before))
        ∙ frame_marks asking collecting agrees.at_boundary before at frame truths
        (agrees.at_frame before frame at truths in_time)
    one_step before at (Reported include_current) truths in_time =
        let step : Step = record { at = at; what = Reported include_current; truths = truths } in
        ap (λ cs. marks_after asking collecting cs (calls_of_step asking collecting before step)) (sym (alone before))
        ∙ report_marks asking collecting agrees.at_boundary before at include_current truths

    -- the calls of all steps have theirs, where others came before
    all_steps : (before steps : List Step) → DontGoBack 0 (before ++ steps)
        → marks_after asking collecting (outputs (calls_of_step asking collecting) before)
        (outputs_after (calls_of_step asking collecting) before steps)
        ≡ outputs_after (marks_at asking.way.shown (own_demands asking collecting).base
        (own_demands asking collecting).size) before steps
    all_steps before [] in_time = refl
    all_steps before (step ∷ steps) in_time =
        let each = calls_of_step asking collecting in
        let marks : List Step → Step → List (Mark X) = marks_at asking.way.shown (own_demands asking collecting).base
        (own_demands asking collecting).size in
        let rest = outputs_after each (before ++ step ∷ []) steps in
        outputs_after-append (call_marks collecting asking.params) (outputs each before) (each before step) rest
        ∙ ap (λ l. l ++ marks_after asking collecting (outputs each before ++ each before step) rest)
        (one_step before step.at step.what step.truths (in_time-more 0 before steps step in_time))
        ∙ ap (λ cs. marks before step ++ marks_after asking collecting cs rest) (sym (outputs-push each before step))
        ∙ ap (λ l. marks before step ++ l)
        (all_steps (before ++ step ∷ []) steps
        (subst (DontGoBack 0) (sym (append_assoc before (step ∷ []) steps)) in_time))

    -- calls that agree with steps in time leave the books of the steps
    pub books_in_time : (steps : List Step) → DontGoBack 0 steps
        → books_by (calls_mean collecting) asking.params (calls_by_steps asking collecting steps)
        ≡ own_books asking.way steps
    books_in_time steps in_time =
        marks_leave asking collecting agrees.made steps
        (ap (marks_after asking collecting []) (alone steps) ∙ all_steps [] steps in_time
        ∙ ap (λ l. l ++ outputs (marks_at asking.way.shown (own_demands asking collecting).base
        (own_demands asking collecting).size) steps) (sym agrees.begins))
