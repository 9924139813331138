-- What a contract sees of an input and of an output: bytes, where it tells them, and how many calls failed.
use Rattle.std.specs.Prelude.{ℕ, List, Option}

-- What is seen of an input.
pub record Input : Type 0 where
  -- what is left: the bytes still to come, or none where the input doesn't tell
  pub left : Option (List ℕ)
  -- its count of faults: the calls that failed; it never falls, and stands still at its type's end
  pub faults : ℕ

-- What is seen of an output.
pub record Output : Type 0 where
  -- the bytes that were written, or none where the output doesn't tell
  pub written : Option (List ℕ)
  -- its count of faults: the calls that failed; it never falls, and stands still at its type's end
  pub faults : ℕ

-- an input with this left, and with so many faults
abbrev pub input_with : Option (List ℕ) → ℕ → Input
input_with left faults = record { left = left; faults = faults }

-- an output with this written, and with so many faults
abbrev pub output_with : Option (List ℕ) → ℕ → Output
output_with written faults = record { written = written; faults = faults }

-- What is seen of an input and an output together.
pub record Ports : Type 0 where
  pub input : Input
  pub output : Output

-- an input and an output together
abbrev pub ports : Input → Output → Ports
ports input output = record { input = input; output = output }
