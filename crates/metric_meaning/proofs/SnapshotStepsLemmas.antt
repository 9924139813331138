-- What a step makes of what a pulled metric finds in the log: lemmas on `specs/SnapshotSteps.antt`, for the proofs of
-- instances.
use Rattle.std.proofs.Common.{◌≡◌, ◌≢◌, ℕ, Bool, true, false, List, [], ◌∷◌, ◌++◌, Some, None, refl, sym, ap, ◌∙◌, append_assoc}
use Rattle.std.specs.Prelude.{if◌then◌else◌}
use Rattle.std.specs.Option.{option_map, option_and_then}
use Rattle.std.proofs.lemmas.List.{append-nil}
use Rattle.std.proofs.lemmas.List.Concat.{flat_map-append}
use Rattle.atom_record.specs.declared.log.LogFrame.{LogFrame}
use Rattle.atom_record.specs.declared.log.LogFrame.TheVariants.{Tick, AtomAt, Pull}
use Rattle.atom_record.specs.declared.log.PullOutcome.{PullOutcome}
use Rattle.atom_record.specs.Pulled.{is_pull_id}
use Rattle.config_types.specs.declared.matcher.SimpleMatcher.{SimpleMatcher}
use Rattle.matcher_eval.specs.AtomTests.{number_set}
use Rattle.config_links.specs.declared.linked.LMetric.{LMetric}
use Rattle.book_meaning.specs.Snapshots.{atoms_in, snapshot_of, is_kept_next}
use Rattle.book_meaning.proofs.SnapshotLaws.{snapshot_after, snapshot_idle, snapshot_other}
use Rattle.metric_meaning.specs.Histories.{What, Logged, Reported, Step, Installation, frames_at, logged_frames, log_after}
use Rattle.metric_meaning.specs.ShownFrames.{shown_outcome}
use Rattle.metric_meaning.specs.SnapshotSteps.{pulled_matcher, atoms_meant, atoms_pulled, snapshot_found}

-- the log after one more step
log_after-push : (installed : Installation) (before : List Step) (step : Step)
    → log_after installed (before ++ step ∷ []) ≡ log_after installed before ++ frames_at step.what
log_after-push installed before step =
    ap (λ frames. installed.opening ++ frames)
    (flat_map-append (λ (step : Step). frames_at step.what) before (step ∷ [])
    ∙ ap (λ frames. logged_frames before ++ frames) (append-nil (frames_at step.what)))
    ∙ sym (append_assoc installed.opening (logged_frames before) (frames_at step.what))

-- the atoms of an outcome that is kept are those of the outcome as it is shown
atoms_shown : (kept : Bool) (outcome : PullOutcome)
    → (if kept then atoms_in outcome else None) ≡ atoms_in (shown_outcome kept outcome)
atoms_shown true outcome = refl
atoms_shown false outcome = refl

-- a step is no pull of an id
abbrev pub IsNoPullOf : ℕ → What → Type 0
IsNoPullOf id (Logged (Pull at other outcome)) = other ≢ id
IsNoPullOf id _ = Unit {0}

-- the snapshot of an id after a step that is no pull of it
snapshot_stays : (id : ℕ) (log : List LogFrame) (what : What) → IsNoPullOf id what
    → snapshot_of id (log ++ frames_at what) ≡ snapshot_of id log
snapshot_stays id log (Logged (Tick at)) other = snapshot_idle log (Tick at) id refl
snapshot_stays id log (Logged (AtomAt at atom)) other = snapshot_idle log (AtomAt at atom) id refl
snapshot_stays id log (Logged (Pull at pulled outcome)) other = snapshot_other log at id pulled outcome other
snapshot_stays id log (Reported include_current) other = ap (snapshot_of id) (append-nil log)

module _ (installed : Installation) (metric : LMetric) (matcher : SimpleMatcher)
    (is : pulled_matcher installed.linked.matchers metric ≡ Some matcher) where
  abbrev id : ℕ
  id = number_set matcher.atom_id

  -- what is found after a step, by the log before it
  found-push : (before : List Step) (step : Step)
      → snapshot_found installed metric (before ++ step ∷ [])
      ≡ atoms_pulled (log_after installed before ++ frames_at step.what) matcher
  found-push before step =
      ap (option_and_then (atoms_pulled (log_after installed (before ++ step ∷ [])))) is
      ∙ ap (λ log. atoms_pulled log matcher) (log_after-push installed before step)

  -- A pull of the metric's id, as a configuration is shown it, is what the metric finds: its atoms that the matcher
  -- means, or none.
  pub found-pulled : (before : List Step) (step : Step) (at : ℕ) (outcome : PullOutcome)
      → step.what ≡ Logged (Pull at id outcome) → is_pull_id id ≡ true
      → snapshot_found installed metric (before ++ step ∷ [])
      ≡ option_map (atoms_meant matcher)
      (atoms_in (shown_outcome (is_kept_next id (log_after installed before)) outcome))
  found-pulled before step at outcome what pulled =
      let log = log_after installed before in
      found-push before step
      ∙ ap (λ what. atoms_pulled (log ++ frames_at what) matcher) what
      ∙ ap (option_map (atoms_meant matcher))
      (snapshot_after log at id outcome pulled ∙ atoms_shown (is_kept_next id log) outcome)

  -- All other steps leave what it finds.
  pub found-stays : (before : List Step) (step : Step) → IsNoPullOf id step.what
      → snapshot_found installed metric (before ++ step ∷ []) ≡ snapshot_found installed metric before
  found-stays before step other =
      let log = log_after installed before in
      found-push before step
      ∙ ap (option_map (atoms_meant matcher)) (snapshot_stays id log step.what other)
      ∙ sym (ap (option_and_then (atoms_pulled log)) is)

  -- So does a pull of an id that isn't one that is pulled.
  pub found-unpulled : (before : List Step) (step : Step) (at other : ℕ) (outcome : PullOutcome)
      → step.what ≡ Logged (Pull at other outcome) → is_pull_id other ≡ false
      → snapshot_found installed metric (before ++ step ∷ []) ≡ snapshot_found installed metric before
  found-unpulled before step at other outcome what unpulled =
      let log = log_after installed before in
      found-push before step
      ∙ ap (λ what. atoms_pulled (log ++ frames_at what) matcher) what
      ∙ ap (option_map (atoms_meant matcher))
      (snapshot_idle log (Pull at other outcome) id
      (ap (λ (b : Bool). if b then (other, outcome) ∷ [] else []) unpulled))
      ∙ sym (ap (option_and_then (atoms_pulled log)) is)
