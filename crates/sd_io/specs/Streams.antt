-- What a contract sees of an adapter of one of std's streams.
use Rattle.std.specs.Prelude.{ℕ, List, Option}
use Rattle.sd_io.specs.States.{Input, Output, input_with, output_with}

-- The stream of an adapter, and how many of its calls failed.
pub record Counted (Stream : Type 0) : Type 0 where
  -- the stream
  pub stream : Stream
  -- how many calls failed
  pub faults : ℕ

-- what is seen of a stream that is read, where it tells what is left so
abbrev pub stream_input : {R : Type 0} → (R → Option (List ℕ)) → Counted R → Input
stream_input remaining s = input_with (remaining s.stream) s.faults

-- what is seen of a stream that is written to, where it tells what was written so
abbrev pub stream_output : {W : Type 0} → (W → Option (List ℕ)) → Counted W → Output
stream_output contents s = output_with (contents s.stream) s.faults
