-- What the program does with the words of its command line. Its input is its own: what is left of it is let go.
use Rattle.std.specs.Prelude.{◌≡◌, ℕ, ◌⊎◌}
use Rattle.sd_io.specs.States.{Input, Output}
use Rattle.statsd_cli.specs.declared.command.Command.{Command}
use Rattle.statsd_cli.specs.Endings.{status_no_memory}
use Rattle.statsd_cli.specs.Streams.{Streams, streams}
use Rattle.statsd_cli.specs.Does.{Does}

-- The command was done, and something is left of the input.
pub record Ends (command : Command) (status : ℕ) (old : Streams) (out notes : Output) : Type 0 where
  pub left : Input
  pub does : Does command status old (streams left out notes)

-- There was no memory for the words, or for the buffer of the input, and nothing was done.
pub record IsWithoutMemory (status : ℕ) (old_out old_notes out notes : Output) : Type 0 where
  pub is : status ≡ status_no_memory
  pub out_stays : out ≡ old_out
  pub notes_stay : notes ≡ old_notes

-- the command was done, or there was no memory to begin it
abbrev pub EndsOn : Command → ℕ → Streams → Output → Output → Type 0
EndsOn command status old out notes =
    Ends command status old out notes
    ⊎ IsWithoutMemory status old.ports.output old.notes out notes
