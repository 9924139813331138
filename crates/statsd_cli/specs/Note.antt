-- What is told of an ending.
use Rattle.std.specs.Prelude.{ℕ, List, [], ◌++◌, codes, decimal}
use Rattle.session_frames.specs.declared.frame.SessionFault.{SessionFault}
use Rattle.session_frames.specs.declared.frame.SessionFault.TheVariants.{Cut, TooLong, BadLength, UnknownKind, BadBody, BadAtom, TimeBackwards, TooManyFrames}
use Rattle.report_print.specs.declared.error.ReportFault.TheVariants as report
use Rattle.statsd_cli.specs.declared.ending.Ending.{Ending}
use Rattle.statsd_cli.specs.declared.ending.SaveFault.{SaveFault}
use Rattle.statsd_cli.specs.declared.ending.SaveFault.TheVariants as save
use Rattle.statsd_cli.specs.declared.ending.Ending.TheVariants.{Done, Refused, Usage, BadSession, ReadFault, WriteFault, NoMemory, ReportRefused, SaveRefused}

-- a fault of a session: its number, its name, and the values that it has
abbrev pub fault_text : SessionFault → List ℕ
fault_text Cut = codes "1 cut"
fault_text (TooLong length) = codes "2 too long " ++ decimal length
fault_text BadLength = codes "3 bad length"
fault_text (UnknownKind kind) = codes "4 unknown kind " ++ decimal kind
fault_text (BadBody reason) = codes "5 bad body " ++ decimal reason
fault_text (BadAtom reason) = codes "6 bad atom " ++ decimal reason
fault_text (TimeBackwards previous now) = codes "7 time backwards " ++ decimal previous ++ codes " " ++ decimal now
fault_text TooManyFrames = codes "8 too many frames"

-- why a session isn't saved, or none is resumed
abbrev pub save_text : SaveFault → List ℕ
save_text save.Cut = codes "cut"
save_text (save.TooLong size) = codes "too long " ++ decimal size
save_text save.NotSaved = codes "not saved"

-- what is told of an ending: a line with its newline, and nothing where the command is done
abbrev pub note_line : Ending → List ℕ
note_line Done = []
note_line Refused = codes "statsd: configuration refused\n"
note_line Usage = codes "statsd: usage: replay | check | load SEED FRAMES | show | save | resume\n"
note_line (BadSession at fault) =
    codes "statsd: bad session at " ++ decimal at ++ codes ": " ++ fault_text fault ++ codes "\n"
note_line ReadFault = codes "statsd: read fault\n"
note_line WriteFault = codes "statsd: write fault\n"
note_line NoMemory = codes "statsd: out of memory\n"
note_line (ReportRefused report.TooLong) = codes "statsd: report refused: too long\n"
note_line (ReportRefused report.NotReport) = codes "statsd: report refused: not a report\n"
note_line (SaveRefused fault) = codes "statsd: save refused: " ++ save_text fault ++ codes "\n"
