-- The snapshot of a pulled id: what its last recorded pull gave.
use Rattle.std.specs.Prelude.{ℕ, Bool, ◌==◌, List, [], ◌∷◌, ◌++◌, Option, Some, None, map, if◌then◌else◌}
use Rattle.std.specs.List.{flat_map, last_or}
use Rattle.atom_record.specs.declared.atom.Atom.{Atom}
use Rattle.atom_record.specs.declared.log.LogFrame.{LogFrame}
use Rattle.atom_record.specs.declared.log.LogFrame.TheVariants.{Tick, AtomAt, Pull}
use Rattle.atom_record.specs.declared.log.PullOutcome.{PullOutcome}
use Rattle.atom_record.specs.declared.log.PullOutcome.TheVariants.{Atoms, Failed}
use Rattle.atom_record.specs.Pulled.{is_pull_id}
use Rattle.bucket_meaning.specs.Guard.{is_among, admitted, of_key, arrival_key}
use Rattle.book_meaning.specs.BookLimits.{most_pulled_ids}

-- two ids are equal
abbrev pub same_atom_id : ℕ → ℕ → Bool
same_atom_id x y = x == y

-- the pull that a frame is, with its id, if that id is a pulled one
abbrev pub pull_in : LogFrame → List (ℕ × PullOutcome)
pull_in (Tick at) = []
pull_in (AtomAt at atom) = []
pull_in (Pull at id outcome) = if is_pull_id id then (id, outcome) ∷ [] else []

-- the pulls of pulled ids, in the order of the log, failed ones included
abbrev pub pulls_of : List LogFrame → List (ℕ × PullOutcome)
pulls_of frames = flat_map pull_in frames

-- the kept ids: the first distinct ones that pulls name, failed pulls included
abbrev pub kept_ids : List LogFrame → List ℕ
kept_ids frames = admitted same_atom_id most_pulled_ids (map arrival_key (pulls_of frames))

-- an outcome; where there is none, it is as one that failed
abbrev pub outcome_or_failed : Option PullOutcome → PullOutcome
outcome_or_failed None = Failed
outcome_or_failed (Some outcome) = outcome

-- what the last pull of an id gave
abbrev pub last_outcome : ℕ → List LogFrame → PullOutcome
last_outcome id frames = outcome_or_failed (last_or None (of_key same_atom_id id (pulls_of frames)))

-- the atoms of an outcome; a failed pull has none
abbrev pub atoms_in : PullOutcome → Option (List Atom)
atoms_in Failed = None
atoms_in (Atoms atoms) = Some atoms

-- the snapshot of a kept id: the atoms of its last pull, and none if that failed
abbrev pub snapshot_of : ℕ → List LogFrame → Option (List Atom)
snapshot_of id frames = if is_among same_atom_id id (kept_ids frames) then atoms_in (last_outcome id frames) else None

-- each kept id with what its last pull gave
abbrev pub outcomes_of : List LogFrame → List (ℕ × PullOutcome)
outcomes_of frames = map (λ id. (id, last_outcome id frames)) (kept_ids frames)

-- a pull of this id that comes next is kept
abbrev pub is_kept_next : ℕ → List LogFrame → Bool
is_kept_next id frames = is_among same_atom_id id (kept_ids (frames ++ Pull 0 id Failed ∷ []))
