-- How a command ended: the program's status, and what the notes gained.
use Rattle.std.specs.Prelude.{ℕ, ◌⊎◌}
use Rattle.sd_io.specs.States.{Output}
use Rattle.sd_io.specs.Causes.{Gains, GainsFront, Rose}
use Rattle.statsd_cli.specs.declared.ending.Ending.{Ending}
use Rattle.statsd_cli.specs.declared.ending.Ending.TheVariants.{Done, Refused, Usage, BadSession, ReadFault, WriteFault, NoMemory, ReportRefused, SaveRefused}
use Rattle.statsd_cli.specs.Note.{note_line}

-- the program's status by why it ends
abbrev pub status_done : ℕ
status_done = 0

-- the configuration is refused
abbrev pub status_refused : ℕ
status_refused = 1

-- the words are none that the program knows
abbrev pub status_usage : ℕ
status_usage = 2

-- the session has a fault
abbrev pub status_bad_session : ℕ
status_bad_session = 3

-- the input failed
abbrev pub status_read_fault : ℕ
status_read_fault = 4

-- the output failed
abbrev pub status_write_fault : ℕ
status_write_fault = 5

-- memory was wanting
abbrev pub status_no_memory : ℕ
status_no_memory = 6

-- the bytes are no report
abbrev pub status_report_refused : ℕ
status_report_refused = 7

-- the session isn't saved, or the bytes are no saved form
abbrev pub status_save_refused : ℕ
status_save_refused = 8

-- the status of an ending
abbrev pub status_of : Ending → ℕ
status_of Done = status_done
status_of Refused = status_refused
status_of Usage = status_usage
status_of (BadSession at fault) = status_bad_session
status_of ReadFault = status_read_fault
status_of WriteFault = status_write_fault
status_of NoMemory = status_no_memory
status_of (ReportRefused fault) = status_report_refused
status_of (SaveRefused fault) = status_save_refused

-- the notes gained what is told of the ending, whole, or a front of it where their count of faults rose
abbrev pub IsNoted : Output → Output → Ending → Type 0
IsNoted old new ending =
    Gains old new (note_line ending) ⊎ (GainsFront old new (note_line ending) × Rose old.faults new.faults)
