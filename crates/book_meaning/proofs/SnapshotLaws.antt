-- The snapshot of a pulled id, one more frame at a time: a pull of the id gives it anew, and no other frame changes it.
use Rattle.std.proofs.Common.{◌≡◌, ◌≢◌, ℕ, ◌<◌, ◌≤◌, Bool, true, false, ◌||◌, List, [], ◌∷◌, ◌++◌, map, length, Option, Some, None, if◌then◌else◌, refl, sym, ap, ◌∙◌, ⊎_elim}
use Rattle.std.specs.List.{last_or}
use Rattle.std.proofs.lemmas.Bool.{cases_Bool, cases_lt}
use Rattle.std.proofs.lemmas.Bool.Decides.{Decides-eqb}
use Rattle.std.proofs.lemmas.List.{append-nil, map-append}
use Rattle.std.proofs.lemmas.List.Concat.{flat_map-append}
use Rattle.atom_record.specs.declared.log.LogFrame.{LogFrame}
use Rattle.atom_record.specs.declared.log.LogFrame.TheVariants.{Pull}
use Rattle.atom_record.specs.declared.log.PullOutcome.{PullOutcome}
use Rattle.atom_record.specs.declared.log.PullOutcome.TheVariants.{Failed}
use Rattle.atom_record.specs.Pulled.{is_pull_id}
use Rattle.bucket_meaning.specs.Guard.{is_among, admitted, of_key, arrival_key}
use Rattle.bucket_meaning.proofs.GuardLemmas.{is_among-push, of_key-push, admitted_full, admitted_present, admitted_new}
use Rattle.book_meaning.specs.BookLimits.{most_pulled_ids}
use Rattle.book_meaning.specs.Snapshots.{same_atom_id, pull_in, pulls_of, kept_ids, outcome_or_failed, last_outcome, atoms_in, snapshot_of, is_kept_next}

-- the ids that are kept of these, in order
abbrev kept : List ℕ → List ℕ
kept ids = admitted same_atom_id most_pulled_ids ids

-- the pulls with one more frame
pulls_of-push : (log : List LogFrame) (frame : LogFrame) → pulls_of (log ++ frame ∷ []) ≡ pulls_of log ++ pull_in frame
pulls_of-push log frame =
    flat_map-append pull_in log (frame ∷ []) ∙ ap (λ l. pulls_of log ++ l) (append-nil (pull_in frame))

-- the pulls with one more of a pulled id
one_pull : (log : List LogFrame) (at id : ℕ) (outcome : PullOutcome) → is_pull_id id ≡ true
    → pulls_of (log ++ Pull at id outcome ∷ []) ≡ pulls_of log ++ (id, outcome) ∷ []
one_pull log at id outcome pulled =
    pulls_of-push log (Pull at id outcome)
    ∙ ap (λ (b : Bool). pulls_of log ++ (if b then (id, outcome) ∷ [] else [])) pulled

-- the kept ids with one more pull of a pulled id
kept_ids-push : (log : List LogFrame) (at id : ℕ) (outcome : PullOutcome) → is_pull_id id ≡ true
    → kept_ids (log ++ Pull at id outcome ∷ []) ≡ kept (map arrival_key (pulls_of log) ++ id ∷ [])
kept_ids-push log at id outcome pulled =
    ap (λ pulls. kept (map arrival_key pulls)) (one_pull log at id outcome pulled)
    ∙ ap kept (map-append arrival_key (pulls_of log) ((id, outcome) ∷ []))

-- the last one of a list
last_or-push : {A : Type 0} (first : Option A) (xs : List A) (x : A) → last_or first (xs ++ x ∷ []) ≡ Some x
last_or-push first [] x = refl
last_or-push first (y ∷ xs) x = last_or-push (Some y) xs x

-- what the last pull of an id gave is what one more gives
last_outcome-push : (log : List LogFrame) (at id : ℕ) (outcome : PullOutcome) → is_pull_id id ≡ true
    → last_outcome id (log ++ Pull at id outcome ∷ []) ≡ outcome
last_outcome-push log at id outcome pulled =
    let before = of_key same_atom_id id (pulls_of log) in
    ap (λ pulls. outcome_or_failed (last_or None (of_key same_atom_id id pulls))) (one_pull log at id outcome pulled)
    ∙ ap (λ outcomes. outcome_or_failed (last_or None outcomes))
    (of_key-push same_atom_id id (pulls_of log) (id, outcome)
    ∙ ap (λ (b : Bool). before ++ (if b then outcome ∷ [] else [])) ((Decides-eqb id id).1 refl))
    ∙ ap outcome_or_failed (last_or-push None before outcome)

-- After one more pull of a pulled id its snapshot is what the pull gave, if the pull is kept, and else none.
pub snapshot_after : (log : List LogFrame) (at id : ℕ) (outcome : PullOutcome) → is_pull_id id ≡ true
    → snapshot_of id (log ++ Pull at id outcome ∷ []) ≡ (if is_kept_next id log then atoms_in outcome else None)
snapshot_after log at id outcome pulled =
    let all = log ++ Pull at id outcome ∷ [] in
    ap (λ ids. if is_among same_atom_id id ids then atoms_in (last_outcome id all) else None)
    (kept_ids-push log at id outcome pulled ∙ sym (kept_ids-push log 0 id Failed pulled))
    ∙ ap (λ o. if is_kept_next id log then atoms_in o else None) (last_outcome-push log at id outcome pulled)

-- After a frame that is no pull of a pulled id, each snapshot is what it was.
pub snapshot_idle : (log : List LogFrame) (frame : LogFrame) (id : ℕ) → pull_in frame ≡ []
    → snapshot_of id (log ++ frame ∷ []) ≡ snapshot_of id log
snapshot_idle log frame id none =
    ap (λ pulls. if is_among same_atom_id id (kept (map arrival_key pulls))
    then atoms_in (outcome_or_failed (last_or None (of_key same_atom_id id pulls))) else None)
    (pulls_of-push log frame ∙ ap (λ l. pulls_of log ++ l) none ∙ append-nil (pulls_of log))

module _ (id other : ℕ) (differ : same_atom_id other id ≡ false) where
  -- whether an id is kept doesn't hang on another one that comes after it
  kept-other : (ids : List ℕ)
      → is_among same_atom_id id (kept (ids ++ other ∷ [])) ≡ is_among same_atom_id id (kept ids)
  kept-other ids = ⊎_elim
      (λ (room : length (kept ids) < most_pulled_ids). ⊎_elim
      (λ (present : is_among same_atom_id other (kept ids) ≡ true).
      ap (is_among same_atom_id id) (admitted_present same_atom_id most_pulled_ids ids other present))
      (λ (absent : is_among same_atom_id other (kept ids) ≡ false).
      ap (is_among same_atom_id id) (admitted_new same_atom_id most_pulled_ids ids other absent room)
      ∙ is_among-push same_atom_id id (kept ids) other
      ∙ ap (λ b. is_among same_atom_id id (kept ids) || b) differ
      ∙ or_false (is_among same_atom_id id (kept ids)))
      (cases_Bool (is_among same_atom_id other (kept ids))))
      (λ (full : most_pulled_ids ≤ length (kept ids)).
      ap (is_among same_atom_id id) (admitted_full same_atom_id most_pulled_ids ids other full))
      (cases_lt (length (kept ids)) most_pulled_ids)
    where
      or_false : (b : Bool) → (b || false) ≡ b
      or_false true = refl
      or_false false = refl

  -- what the last pull of an id gave doesn't hang on a pull of another one
  last_outcome-other : (log : List LogFrame) (at : ℕ) (outcome : PullOutcome) → is_pull_id other ≡ true
      → last_outcome id (log ++ Pull at other outcome ∷ []) ≡ last_outcome id log
  last_outcome-other log at outcome pulled =
      let before = of_key same_atom_id id (pulls_of log) in
      ap (λ pulls. outcome_or_failed (last_or None (of_key same_atom_id id pulls)))
      (one_pull log at other outcome pulled)
      ∙ ap (λ outcomes. outcome_or_failed (last_or None outcomes))
      (of_key-push same_atom_id id (pulls_of log) (other, outcome)
      ∙ ap (λ (b : Bool). before ++ (if b then outcome ∷ [] else [])) differ ∙ append-nil before)

  snapshot_by : (log : List LogFrame) (at : ℕ) (outcome : PullOutcome) (pulled : Bool) → is_pull_id other ≡ pulled
      → snapshot_of id (log ++ Pull at other outcome ∷ []) ≡ snapshot_of id log
  snapshot_by log at outcome false not_pulled =
      snapshot_idle log (Pull at other outcome) id
      (ap (λ (b : Bool). if b then (other, outcome) ∷ [] else []) not_pulled)
  snapshot_by log at outcome true pulled =
      ap (λ o. if is_among same_atom_id id (kept_ids (log ++ Pull at other outcome ∷ [])) then atoms_in o else None)
      (last_outcome-other log at outcome pulled)
      ∙ ap (λ b. if b then atoms_in (last_outcome id log) else None)
      (ap (is_among same_atom_id id) (kept_ids-push log at other outcome pulled)
      ∙ kept-other (map arrival_key (pulls_of log)))

-- After a pull of another id, kept or not, a snapshot is what it was.
pub snapshot_other : (log : List LogFrame) (at id other : ℕ) (outcome : PullOutcome) → other ≢ id
    → snapshot_of id (log ++ Pull at other outcome ∷ []) ≡ snapshot_of id log
snapshot_other log at id other outcome apart = ⊎_elim
    (λ (same : same_atom_id other id ≡ true). absurd (apart ((Decides-eqb other id).0 same)))
    (λ (differ : same_atom_id other id ≡ false). snapshot_by id other differ log at outcome (is_pull_id other) refl)
    (cases_Bool (same_atom_id other id))
