-- The three streams of a run.
use Rattle.sd_io.specs.States.{Input, Output, Ports, ports}

-- What is seen of the three streams: the input and the output, and the notes beside them.
pub record Streams : Type 0 where
  pub ports : Ports
  pub notes : Output

-- the three streams together
abbrev pub streams : Input → Output → Output → Streams
streams input output notes = record { ports = ports input output; notes = notes }
