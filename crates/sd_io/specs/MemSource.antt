-- What a contract sees of a `MemSource`, and of a call that isn't to fail.
use Rattle.std.specs.Prelude.{◌≡◌, ℕ, min, List, ◌++◌, length, take, drop, Contains, Some, Result}
use Rattle.sd_io.specs.States.{Input}
use Rattle.sd_io.specs.Causes.{count_up, faults_after}

-- What a contract sees of a source in memory.
pub record SourceContents : Type 0 where
  -- the bytes to come
  pub left : List ℕ
  -- the most that one call gives
  pub piece : ℕ
  -- the numbers of the calls that fail, the first call being 0
  pub fails : List ℕ
  -- how many calls there were
  pub calls : ℕ
  -- how many of them failed
  pub faults : ℕ

-- a source after a read with this result, where this is left now: the call is counted, and a failed one as a fault
abbrev pub source_after : {T E : Type 0} → Result T E → List ℕ → SourceContents → SourceContents
source_after result left source = record source {
  left = left;
  calls = count_up source.calls;
  faults = faults_after result source.faults;
}

-- the next call is one of those that fail
abbrev pub IsReadToFail : SourceContents → Type 0
IsReadToFail source = Contains source.fails source.calls

-- so many bytes were given: as many as the piece, the buffer and what is left allow, and the next ones
pub record GivesPiece (source : SourceContents) (buffer : List ℕ) (count : ℕ)
    (left_after buffer_after : List ℕ) : Type 0 where
  pub most : count ≡ min source.piece (min (length buffer) (length source.left))
  pub given : buffer_after ≡ take count source.left ++ drop count buffer
  pub left : left_after ≡ drop count source.left

-- what is seen of it as an input: it tells all that is left
abbrev pub input_of : SourceContents → Input
input_of source = record { left = Some source.left; faults = source.faults }
