-- What the inner calls of a reader answer.
use Rattle.std.specs.Prelude.{◌≡◌, ℕ, ◌≤◌, ◌<◌, List, ◌++◌, length, Option, Some, None, Result, Ok, Err}
use Rattle.sd_io.specs.States.{Input}
use Rattle.sd_io.specs.Causes.{IsAtEnd, Takes}
use Rattle.session_frames.specs.declared.body.BodyError.{BodyError}
use Rattle.session_frames.specs.declared.body.BodyError.TheVariants.{Fault, Memory}
use Rattle.session_frames.specs.declared.frame.Frame.{Frame}
use Rattle.session_frames.specs.declared.frame.FrameError.{FrameError}
use Rattle.session_frames.specs.declared.frame.FrameError.TheVariants as failed
use Rattle.session_frames.specs.declared.frame.FrameFault.{FrameFault}
use Rattle.session_frames.specs.declared.place.Place.{Place}
use Rattle.session_frames.specs.Frames.{Next, Ended, Broken, Whole, needed}

-- the fault that an error names; want of memory names none
abbrev pub fault_in : BodyError → Option FrameFault
fault_in (Fault fault) = Some fault
fault_in Memory = None

-- the call answers what stands next, and a fault with the place's offset
abbrev pub FindsNext : Place → Result (Option Frame) FrameError → Next → Type 0
FindsNext place (Ok None) next = next ≡ Ended
FindsNext place (Ok (Some frame)) next = (rest : List ℕ) × (next ≡ Whole frame rest)
FindsNext place (Err (failed.Session at fault)) next = (at ≡ place.bytes) × (next ≡ Broken fault)
FindsNext place (Err failed.Read) next = ⊥
FindsNext place (Err failed.Memory) next = Unit {0}

-- the cause lies outside of the session
abbrev pub IsOutside : FrameError → Type 0
IsOutside (failed.Session at fault) = ⊥
IsOutside _ = Unit {0}

-- Some bytes were taken after those that were held, as many as told: none only at the end.
pub record TakesSome (old new : Input) (before after : List ℕ) (most count : ℕ) : Type 0 where
  pub more : List ℕ
  pub consumes : Takes old new more
  pub grown : after ≡ before ++ more
  pub counted : length more ≡ count
  pub few : count ≤ most
  pub end : count ≡ 0 → IsAtEnd new.left

-- As many bytes were taken as the judgement asks for, or all that there are.
pub record TakesNext (old new : Input) (place : Place) (taken : List ℕ) : Type 0 where
  pub consumes : Takes old new taken
  pub no_more : length taken ≤ needed place taken
  pub end : length taken < needed place taken → IsAtEnd new.left

-- The taking broke off before there were as many.
pub record StopsShort (old new : Input) (place : Place) (e : FrameError) : Type 0 where
  pub taken : List ℕ
  pub consumes : Takes old new taken
  pub short : length taken < needed place taken
  pub outside : IsOutside e
