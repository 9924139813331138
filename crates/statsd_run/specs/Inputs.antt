-- What is seen of the input, read ahead or as it came.
use Rattle.std.specs.Prelude.{ℕ, List, Option}
use Rattle.sd_io.specs.States.{input_with}
use Rattle.sd_io.specs.States as states
use Rattle.sd_io.specs.Buffered.{buffered_state}
use Rattle.statsd_run.specs.declared.input.Input.{Input}
use Rattle.statsd_run.specs.declared.input.Input.TheVariants.{AsItCame, ReadAhead}

-- what is left of it, where its reader tells that, and its count of faults
abbrev pub input_state : {R : Type 0} → (R → Option (List ℕ)) → Input R → states.Input
input_state remaining (AsItCame source) = input_with (remaining source.stream) source.faults
input_state remaining (ReadAhead source) = buffered_state remaining source
