-- What a contract sees of a source that reads ahead.
use Rattle.std.specs.Prelude.{ℕ, List, Option}
use Rattle.std.specs.Io.Buffered.{reader_buffer, reader_remaining}
use Rattle.sd_io.specs.declared.buffered_source.BufferedSource.{BufferedSource}
use Rattle.sd_io.specs.States.{Input, input_with}

-- what it has read ahead
abbrev pub at_hand : {R : Type 0} → BufferedSource R → List ℕ
at_hand s = reader_buffer s.inner

-- what is seen of it, where its reader tells what is left so
abbrev pub buffered_state : {R : Type 0} → (R → Option (List ℕ)) → BufferedSource R → Input
buffered_state remaining s = input_with (reader_remaining remaining s.inner) s.faults
