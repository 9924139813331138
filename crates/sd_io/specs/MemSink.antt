-- What a contract sees of a `MemSink`, and of a call that isn't to fail.
use Rattle.std.specs.Prelude.{ℕ, ◌-◌, ◌+◌, ◌<◌, List, [], length, take, Contains, Some, Result}
use Rattle.sd_io.specs.States.{Output}
use Rattle.sd_io.specs.Causes.{count_up, faults_after}

-- What a contract sees of a sink in memory.
pub record SinkContents : Type 0 where
  -- the bytes that were written
  pub written : List ℕ
  -- how many bytes it takes in all
  pub room : ℕ
  -- the numbers of the calls that fail, the first call being 0
  pub fails : List ℕ
  -- how many calls there were
  pub calls : ℕ
  -- how many of them failed
  pub faults : ℕ

-- a sink of this room to which nothing was put, with the numbers of the calls that fail
abbrev pub empty_sink : ℕ → List ℕ → SinkContents
empty_sink room fails = record { written = []; room = room; fails = fails; calls = 0; faults = 0 }

-- a sink after a put with this result, where this is written now: the call is counted, and a failed one as a fault
abbrev pub sink_after : {T E : Type 0} → Result T E → List ℕ → SinkContents → SinkContents
sink_after result written sink = record sink {
  written = written;
  calls = count_up sink.calls;
  faults = faults_after result sink.faults;
}

-- the next call is one of those that fail
abbrev pub IsPutToFail : SinkContents → Type 0
IsPutToFail sink = Contains sink.fails sink.calls

-- the room that is left doesn't hold the piece
abbrev pub IsTooLong : SinkContents → List ℕ → Type 0
IsTooLong sink piece = sink.room < length sink.written + length piece

-- as much of the piece as the room that is left holds
abbrev pub front_that_fits : SinkContents → List ℕ → List ℕ
front_that_fits sink piece = take (sink.room - length sink.written) piece

-- what is seen of it as an output: it tells all that was written
abbrev pub output_of : SinkContents → Output
output_of sink = record { written = Some sink.written; faults = sink.faults }
