-- The frames of the log as an installed configuration is shown them: a pull that isn't kept is shown as a failed one.
use Rattle.std.specs.Prelude.{Bool, List, if◌then◌else◌}
use Rattle.atom_record.specs.declared.log.LogFrame.{LogFrame}
use Rattle.atom_record.specs.declared.log.LogFrame.TheVariants.{Tick, AtomAt, Pull}
use Rattle.atom_record.specs.declared.log.PullOutcome.{PullOutcome}
use Rattle.atom_record.specs.declared.log.PullOutcome.TheVariants.{Failed}
use Rattle.book_meaning.specs.Snapshots.{is_kept_next}

-- what is shown of an outcome: itself if it is kept, and else a failed pull
abbrev pub shown_outcome : Bool → PullOutcome → PullOutcome
shown_outcome kept outcome = if kept then outcome else Failed

-- what is shown of a frame that comes after this log
abbrev pub shown_as : List LogFrame → LogFrame → LogFrame
shown_as log (Tick at) = Tick at
shown_as log (AtomAt at atom) = AtomAt at atom
shown_as log (Pull at id outcome) = Pull at id (shown_outcome (is_kept_next id log) outcome)
