-- The books of the log with one more frame: one that is neither told nor pulled changes nothing.
use Rattle.std.proofs.Common.{◌≡◌, ℕ, ℤ, true, false, not, ◌&&◌, List, [], ◌∷◌, ◌++◌, map, filter, Option, Some, None, sym, ap, subst, ◌∙◌}
use Rattle.std.specs.Prelude.{unwrap_or, IfSome}
use Rattle.std.specs.List.{last_or}
use Rattle.std.proofs.lemmas.List.{append-nil}
use Rattle.std.proofs.lemmas.List.Concat.{flat_map-append}
use Rattle.atom_record.specs.declared.atom.Atom.{Atom}
use Rattle.atom_record.specs.declared.value.Leaf.{Leaf}
use Rattle.atom_record.specs.declared.log.LogFrame.{LogFrame}
use Rattle.atom_record.specs.declared.log.LogFrame.TheVariants.{AtomAt, Pull}
use Rattle.atom_record.specs.declared.log.PullOutcome.{PullOutcome}
use Rattle.atom_record.specs.declared.log.PullOutcome.TheVariants.{Atoms, Failed}
use Rattle.session_frames.specs.Faultless.{IsOutcome, IsFaultlessLog}
use Rattle.bucket_meaning.specs.Guard.{admitted, dropped, of_key, arrival_key}
use Rattle.bucket_meaning.specs.Kept.{count_in_u64}
use Rattle.dim_table.specs.Table.{Table}
use Rattle.book_meaning.specs.BookLimits.{most_pulled_ids, most_state_ids, most_state_keys}
use Rattle.book_meaning.specs.Snapshots.{same_atom_id, pull_in, pulls_of, outcome_or_failed, is_kept_next}
use Rattle.book_meaning.specs.States.{same_dims, state_atom_in, state_atoms, primary_key, puts_back, decides, state_by}
use Rattle.state_slicer.specs.StateBooks.{StateBookStandsFor, AppliesAtom}
use Rattle.pull_book.specs.PullBooks.{PullBookStandsFor, IsRecordable, TakesPull}
use Rattle.metric_meaning.specs.ShownFrames.{shown_outcome, shown_as}
use Rattle.client_engine.specs.Handed.{BookOfStates}

-- a frame that is no state atom adds none
no_atom : (log : List LogFrame) (frame : LogFrame) → state_atom_in frame ≡ []
    → state_atoms (log ++ frame ∷ []) ≡ state_atoms log
no_atom log frame none =
    flat_map-append state_atom_in log (frame ∷ [])
    ∙ ap (λ l. state_atoms log ++ (l ++ [])) none ∙ append-nil (state_atoms log)

-- a frame that is no pull of a pulled id adds none
no_pull : (log : List LogFrame) (frame : LogFrame) → pull_in frame ≡ []
    → pulls_of (log ++ frame ∷ []) ≡ pulls_of log
no_pull log frame none =
    flat_map-append pull_in log (frame ∷ [])
    ∙ ap (λ l. pulls_of log ++ (l ++ [])) none ∙ append-nil (pulls_of log)

-- the keys that state atoms of an id name
abbrev keys_among : ℕ → List Atom → List (List Leaf)
keys_among id atoms = map primary_key (filter (λ (atom : Atom). same_atom_id atom.id id && not (puts_back atom)) atoms)

-- the rows of a book of states, by the state atoms alone
abbrev rows_among : List Atom → List (ℕ × Table (List Leaf) ℤ)
rows_among atoms =
    map (λ id. (
      id,
      record {
        rows = map (λ key. (key, state_by (last_or None (filter (decides id key) atoms))))
            (admitted same_dims most_state_keys (keys_among id atoms));
        bound = most_state_keys;
        dropped = count_in_u64 (dropped same_dims most_state_keys (keys_among id atoms));
      },
    ))
    (admitted same_atom_id most_state_ids (map (λ (atom : Atom). atom.id) atoms))

-- a book of states stands for a log with a frame that tells no state
pub quiet_states : (book : BookOfStates) (log : List LogFrame) (frame : LogFrame) → state_atom_in frame ≡ []
    → StateBookStandsFor book log → StateBookStandsFor book (log ++ frame ∷ [])
quiet_states book log frame none stands =
    let same : state_atoms log ≡ state_atoms (log ++ frame ∷ []) = sym (no_atom log frame none) in
    record {
      ids = stands.ids ∙ ap rows_among same;
      bound = stands.bound;
      dropped = stands.dropped
          ∙ ap (λ atoms. count_in_u64 (dropped same_atom_id most_state_ids (map (λ
          (atom : Atom). atom.id) atoms))) same;
    }

-- a book of pulls stands for a log with a frame that pulls nothing
pub quiet_pulls : (book : List (ℕ × PullOutcome)) (log : List LogFrame) (frame : LogFrame) → pull_in frame ≡ []
    → PullBookStandsFor book log → PullBookStandsFor book (log ++ frame ∷ [])
quiet_pulls book log frame none stands = record {
  outcomes = stands.outcomes
      ∙ ap (λ (pulls : List (ℕ × PullOutcome)).
      map (λ id. (id, outcome_or_failed (last_or None (of_key same_atom_id id pulls))))
      (admitted same_atom_id most_pulled_ids (map arrival_key pulls))) (sym (no_pull log frame none));
}

-- a pull that is kept is shown as it came
pub shown_kept : (log : List LogFrame) (at id : ℕ) (outcome : PullOutcome) → is_kept_next id log ≡ true
    → Pull at id outcome ≡ shown_as log (Pull at id outcome)
shown_kept log at id outcome kept = ap (λ b. Pull at id (shown_outcome b outcome)) (sym kept)

-- one that isn't is shown as one that failed
pub shown_failed : (log : List LogFrame) (at id : ℕ) (outcome : PullOutcome) → is_kept_next id log ≡ false
    → Pull at id Failed ≡ shown_as log (Pull at id outcome)
shown_failed log at id outcome off = ap (λ b. Pull at id (shown_outcome b outcome)) (sym off)

-- what a pull without a fault gave may be recorded
pub recordable : (id : ℕ) (outcome : PullOutcome) → IsOutcome id outcome → IsRecordable id outcome
recordable id Failed sound = tt
recordable id (Atoms atoms) sound = sound.1

-- a pull has no fault as one that failed, if it has none
pub failed_faultless : (at id : ℕ) (outcome : PullOutcome) → IsFaultlessLog (Pull at id outcome)
    → IsFaultlessLog (Pull at id Failed)
failed_faultless at id outcome faultless = record { timely = faultless.timely; atoms = (faultless.atoms.0, tt) }

-- what is shown has no fault
pub shown_faultless : (instead : Option LogFrame) (frame : LogFrame) → IfSome instead IsFaultlessLog
    → IsFaultlessLog frame → IsFaultlessLog (unwrap_or instead frame)
shown_faultless None frame shown faultless = faultless
shown_faultless (Some shown) frame is faultless = is

-- a book of states with one more atom
pub told_states : (old new : BookOfStates) (frame : LogFrame) (at : ℕ) (atom : Atom) → frame ≡ AtomAt at atom
    → AppliesAtom old new atom → (log : List LogFrame) → StateBookStandsFor old log
    → StateBookStandsFor new (log ++ frame ∷ [])
told_states old new frame at atom is applies log stands =
    subst (λ f. StateBookStandsFor new (log ++ f ∷ [])) (sym is) (applies log at stands)

-- a book of pulls with one more pull
pub pulled_more : (old new : List (ℕ × PullOutcome)) (frame : LogFrame) (at id : ℕ) (outcome : PullOutcome)
    → frame ≡ Pull at id outcome → TakesPull old new id outcome → (log : List LogFrame) → PullBookStandsFor old log
    → PullBookStandsFor new (log ++ frame ∷ [])
pulled_more old new frame at id outcome is takes log stands =
    subst (λ f. PullBookStandsFor new (log ++ f ∷ [])) (sym is) (takes log at stands)
