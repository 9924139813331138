-- What is taken where the front of an input is read whole.
use Rattle.std.specs.Prelude.{◌≡◌, ℕ, ◌≤◌, ◌⊎◌, List, length}
use Rattle.sd_io.specs.States.{Input}
use Rattle.sd_io.specs.Causes.{IsAtEnd, Rose, Takes}
use Rattle.sd_io.specs.declared.front.FrontError.{FrontError}
use Rattle.sd_io.specs.declared.front.FrontError.TheVariants.{Read}

-- An input was taken to its end, or as many bytes of it as are taken at most.
pub record IsFrontTaken (most : ℕ) (taken : List ℕ) (input : Input) : Type 0 where
  pub within : length taken ≤ most
  pub whole : (length taken ≡ most) ⊎ IsAtEnd input.left

-- A front of the input was taken, and then a read failed and was counted, or memory was wanting.
pub record CutsFront (old new : Input) (e : FrontError) : Type 0 where
  pub taken : List ℕ
  pub consumes : Takes old new taken
  pub rose : e ≡ Read → Rose old.faults new.faults
