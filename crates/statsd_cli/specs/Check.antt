-- The check of a configuration: how it ended, by what was found.
use Rattle.std.specs.Prelude.{Result, Ok, Err}
use Rattle.config_check.specs.declared.error.CheckError.{CheckError}
use Rattle.config_check.specs.declared.error.CheckError.TheVariants.{Read, Write, Memory}
use Rattle.config_check.specs.declared.finding.Finding.{Finding}
use Rattle.config_check.specs.declared.finding.Finding.TheVariants.{Sound}
use Rattle.statsd_cli.specs.declared.ending.Ending.{Ending}
use Rattle.statsd_cli.specs.declared.ending.Ending.TheVariants.{Done, Refused, ReadFault, WriteFault, NoMemory}

-- how a check ends that found this: a configuration is refused for each fault
abbrev pub ending_found : Finding → Ending
ending_found (Sound counts) = Done
ending_found _ = Refused

-- how a check ends, by its answer
abbrev pub check_ending : Result Finding CheckError → Ending
check_ending (Ok finding) = ending_found finding
check_ending (Err Read) = ReadFault
check_ending (Err Write) = WriteFault
check_ending (Err Memory) = NoMemory
