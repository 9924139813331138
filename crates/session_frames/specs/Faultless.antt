-- What holds of each frame that is read.
use Rattle.std.specs.Prelude.{◌≡◌, ℕ, ◌<◌, ◌≤◌, length, All}
use Rattle.atom_record.specs.declared.atom.Atom.{Atom}
use Rattle.atom_record.specs.declared.log.LogFrame.{LogFrame}
use Rattle.atom_record.specs.declared.log.LogFrame.TheVariants.{Tick, AtomAt, Pull}
use Rattle.atom_record.specs.declared.log.PullOutcome.{PullOutcome}
use Rattle.atom_record.specs.declared.log.PullOutcome.TheVariants.{Atoms, Failed}
use Rattle.atom_record.specs.Id.{IsAtomId}
use Rattle.atom_record.specs.AtomSound.{HasNoFault}
use Rattle.session_frames.specs.declared.frame.Frame.{Frame}
use Rattle.session_frames.specs.declared.frame.Frame.TheVariants.{Log}
use Rattle.session_frames.specs.FrameLimits.{first_late_time, most_atoms}
use Rattle.session_frames.specs.FrameReading.{log_time}

-- an atom that a recorded pull of an id may hold
abbrev pub IsPulledAtom : ℕ → Atom → Type 0
IsPulledAtom id atom = (atom.id ≡ id) × HasNoFault atom

-- what a recorded pull of an id may give
abbrev pub IsOutcome : ℕ → PullOutcome → Type 0
IsOutcome id Failed = Unit {0}
IsOutcome id (Atoms atoms) = (length atoms ≤ most_atoms) × All (IsPulledAtom id) atoms

-- the atoms of a frame of the log have no fault
abbrev pub HasSoundAtoms : LogFrame → Type 0
HasSoundAtoms (Tick at) = Unit {0}
HasSoundAtoms (AtomAt at atom) = HasNoFault atom
HasSoundAtoms (Pull at id outcome) = IsAtomId id × IsOutcome id outcome

-- A frame of the log has no fault, but for times that fall.
pub record IsFaultlessLog (frame : LogFrame) : Type 0 where
  pub timely : log_time frame < first_late_time
  pub atoms : HasSoundAtoms frame

-- a frame has no fault, but for times that fall
abbrev pub IsFaultless : Frame → Type 0
IsFaultless (Log frame) = IsFaultlessLog frame
IsFaultless _ = Unit {0}

-- a frame comes no earlier than the clock stands: only frames of the log have a time
abbrev pub IsInTime : ℕ → Frame → Type 0
IsInTime clock (Log frame) = clock ≤ log_time frame
IsInTime clock _ = Unit {0}

-- a frame has no fault where the clock stands so, its time included
abbrev pub StandsAfter : ℕ → Frame → Type 0
StandsAfter clock frame = IsFaultless frame × IsInTime clock frame
