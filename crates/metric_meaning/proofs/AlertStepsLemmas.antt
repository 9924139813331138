-- What the alerts of a metric are told by one step more, and by a run of steps that bring nothing, for callers.
use Rattle.std.proofs.Common.{◌≡◌, ℕ, zero, suc, ◌+◌, ◌<◌, Bool, true, false, List, [], ◌∷◌, ◌++◌, length, if◌then◌else◌, Option, Some, None, refl, sym, ap, ◌∙◌, append-nil, arith}
use Rattle.std.proofs.lemmas.Bool.Decides.{Decides-ltb}
use Rattle.std.proofs.lemmas.List.{length-append}
use Rattle.std.proofs.lemmas.List.Concat.{flat_map-append}
use Rattle.std.specs.List.{flat_map}
use Rattle.std.specs.Option.{option_map}
use Rattle.alert_watch.specs.Windows.{Arrival, Notice, PartsEnded}
use Rattle.atom_record.specs.declared.log.LogFrame.{LogFrame}
use Rattle.atom_record.specs.declared.value.MetricKey.{MetricKey}
use Rattle.bucket_meaning.specs.Ends.{Moment, ends_at}
use Rattle.bucket_meaning.specs.Marks.{Asked, no_edges, boundary, boundary_marks}
use Rattle.sd_base.specs.Outputs.{outputs_after}
use Rattle.sd_base.proofs.OutputsLemmas.{outputs-push, outputs_after-append}
use Rattle.config_links.specs.declared.linked.LMetric.{LMetric}
use Rattle.metric_meaning.specs.AlertSteps.{timed_arrival, notices_of, notices_by, ended_notices, arrived_notices, frame_notices, report_notices}
use Rattle.metric_meaning.specs.CountSteps.{arrival_at}
use Rattle.metric_meaning.specs.Histories.{What, Logged, Reported, Step, Installation, moment_of, moments_at}
use Rattle.metric_meaning.specs.StepMarks.{StepNews, moments, arrival_marks, arrivals_alone, cut_marks, marks_at}

-- ends with nothing at them, as an alert is told them
ends_told : (ends : List ℕ) → flat_map notices_of (boundary_marks no_edges ends) ≡ ended_notices (length ends)
ends_told [] = refl
ends_told (end ∷ ends) = ap (λ l. PartsEnded 1 ∷ l) (ends_told ends)

-- the key that arrives
arrival_told : (at : ℕ) (key : Option MetricKey)
    → flat_map notices_of (arrival_marks (option_map (λ (k : MetricKey). (k, at)) key)) ≡ arrived_notices at key
arrival_told at None = refl
arrival_told at (Some key) = refl

-- a report
report_told : (size : ℕ) (include_current : Bool) (at : ℕ) → 0 < size
    → flat_map notices_of (cut_marks no_edges size include_current at ++ (Asked ∷ [])) ≡ report_notices include_current
report_told size true at sized =
    ap (λ b. flat_map notices_of ((if b then boundary no_edges at else []) ++ (Asked ∷ [])))
    ((Decides-ltb 0 size).1 sized)
report_told size false at sized = refl

module _ (installed : Installation) (metric : LMetric) where
  abbrev news : StepNews Arrival
  news = arrivals_alone (timed_arrival installed metric)

  abbrev told_at : List Step → Step → List Notice
  told_at before step = flat_map notices_of (marks_at news installed.base metric.size before step)

  -- one step more
  told-push : (steps : List Step) (step : Step)
      → notices_by installed metric (steps ++ step ∷ []) ≡ notices_by installed metric steps ++ told_at steps step
  told-push steps step =
      let marks = marks_at news installed.base metric.size in
      ap (flat_map notices_of) (outputs-push marks steps step)
      ∙ flat_map-append notices_of (outputs_after marks [] steps) (marks steps step)

  -- a frame, as an alert is told it
  frame_told : (before : List Step) (at : ℕ) (frame : LogFrame) (truths : List Bool)
      → let step : Step = record { at = at; what = Logged frame; truths = truths } in
      told_at before step
      ≡ frame_notices (length (ends_at installed.base metric.size (moments before) (moment_of frame at))) at
      (arrival_at installed metric before step)
  frame_told before at frame truths =
      let step : Step = record { at = at; what = Logged frame; truths = truths } in
      let ends = ends_at installed.base metric.size (moments before) (moment_of frame at) in
      flat_map-append notices_of (boundary_marks no_edges (ends ++ [])) (news.comes before step)
      ∙ ap (λ l. flat_map notices_of (boundary_marks no_edges l) ++ flat_map notices_of (news.comes before step))
      (append-nil ends)
      ∙ ap (λ l. l ++ flat_map notices_of (news.comes before step)) (ends_told ends)
      ∙ ap (λ l. ended_notices (length ends) ++ l) (arrival_told at (arrival_at installed metric before step))

  -- what an alert is told with a frame more: the ends that it crosses, and the key that arrives
  pub logged_notices : (steps : List Step) (at : ℕ) (frame : LogFrame) (truths : List Bool)
      → let step : Step = record { at = at; what = Logged frame; truths = truths } in
      notices_by installed metric (steps ++ step ∷ [])
      ≡ notices_by installed metric steps
      ++ frame_notices (length (ends_at installed.base metric.size (moments steps) (moment_of frame at))) at
      (arrival_at installed metric steps step)
  logged_notices steps at frame truths =
      let step : Step = record { at = at; what = Logged frame; truths = truths } in
      told-push steps step ∙ ap (λ l. notices_by installed metric steps ++ l) (frame_told steps at frame truths)

  -- with a report more: the end of the part that it cuts, if it does, and that alarms were told
  pub reported_notices : (steps : List Step) (at : ℕ) (include_current : Bool) (truths : List Bool) → 0 < metric.size
      → notices_by installed metric (steps ++ record { at = at; what = Reported include_current; truths = truths } ∷ [])
      ≡ notices_by installed metric steps ++ report_notices include_current
  reported_notices steps at include_current truths sized =
      told-push steps (record { at = at; what = Reported include_current; truths = truths })
      ∙ ap (λ l. notices_by installed metric steps ++ l) (report_told metric.size include_current at sized)

  -- a step that is a frame
  abbrev pub IsFrame : What → Type 0
  IsFrame (Logged frame) = Unit {0}
  IsFrame (Reported include_current) = ⊥

  -- steps that are frames, none of which brings anything
  abbrev pub BringNone : List Step → List Step → Type 0
  BringNone before [] = Unit {0}
  BringNone before (step ∷ run) =
      IsFrame step.what × (arrival_at installed metric before step ≡ None) × BringNone (before ++ step ∷ []) run

  -- the ends that the frames of a run cross, one after the other
  abbrev ends_of_run : List Moment → List Moment → List ℕ
  ends_of_run came run = outputs_after (ends_at installed.base metric.size) came run

  -- so many ends, and so many more
  one_more : (m n : ℕ) → suc (m + n) ≡ suc m + n
  one_more m n = omega arith

  ended-add : (m n : ℕ) → ended_notices m ++ ended_notices n ≡ ended_notices (m + n)
  ended-add zero n = ap ended_notices (omega arith)
  ended-add (suc m) n = ap (λ l. PartsEnded 1 ∷ l) (ended-add m n) ∙ ap ended_notices (one_more m n)

  -- a step that brings nothing tells the ends that it crosses, before others that do so
  one_told : (before : List Step) (at : ℕ) (what : What) (truths : List Bool) (run : List Step)
      → let step : Step = record { at = at; what = what; truths = truths } in
      BringNone before (step ∷ run)
      → flat_map notices_of (outputs_after (marks_at news installed.base metric.size) (before ++ step ∷ []) run)
      ≡ ended_notices (length (ends_of_run (moments (before ++ step ∷ [])) (moments run)))
      → flat_map notices_of (outputs_after (marks_at news installed.base metric.size) before (step ∷ run))
      ≡ ended_notices (length (ends_of_run (moments before) (moments (step ∷ run))))
  one_told before at (Reported include_current) truths run none rest = absurd none.0
  one_told before at (Logged frame) truths run none rest =
      let step : Step = record { at = at; what = Logged frame; truths = truths } in
      let marks = marks_at news installed.base metric.size in
      let moment = moment_of frame at in
      let ends = ends_at installed.base metric.size (moments before) moment in
      let later = ends_of_run (moments before ++ moment ∷ []) (moments run) in
      flat_map-append notices_of (marks before step) (outputs_after marks (before ++ step ∷ []) run)
      ∙ ap (λ l. l ++ flat_map notices_of (outputs_after marks (before ++ step ∷ []) run))
      (frame_told before at frame truths
      ∙ ap (λ key. frame_notices (length ends) at key) none.1 ∙ append-nil (ended_notices (length ends)))
      ∙ ap (λ l. ended_notices (length ends) ++ l)
      (rest ∙ ap (λ came. ended_notices (length (ends_of_run came (moments run))))
      (flat_map-append (λ (s : Step). moments_at s.what s.at) before (step ∷ [])))
      ∙ ended-add (length ends) (length later)
      ∙ ap ended_notices (sym (length-append ends later))

  -- a run of steps that bring nothing tells the ends that they cross
  run_told : (before run : List Step) → BringNone before run
      → flat_map notices_of (outputs_after (marks_at news installed.base metric.size) before run)
      ≡ ended_notices (length (ends_of_run (moments before) (moments run)))
  run_told before [] none = refl
  run_told before (step ∷ run) none =
      one_told before step.at step.what step.truths run none (run_told (before ++ step ∷ []) run none.2)

  pub run_notices : (steps run : List Step) → BringNone steps run
      → notices_by installed metric (steps ++ run)
      ≡ notices_by installed metric steps ++ ended_notices (length (ends_of_run (moments steps) (moments run)))
  run_notices steps run none =
      let marks = marks_at news installed.base metric.size in
      ap (flat_map notices_of) (outputs_after-append marks [] steps run)
      ∙ flat_map-append notices_of (outputs_after marks [] steps) (outputs_after marks steps run)
      ∙ ap (λ l. notices_by installed metric steps ++ l) (run_told steps run none)
