-- What the code of a walk leaves, against the walk of the definition.
use Rattle.std.specs.Prelude.{◌≡◌, ℕ, List, [], ◌∷◌, ◌++◌, Option, None, Some, Result, Ok, Err, if◌then◌else◌}
use Rattle.std.specs.Option.{option_or}
use Rattle.proto_wire.specs.declared.fault.WireFault.{WireFault}
use Rattle.proto_wire.specs.Fields.{FieldOf}
use Rattle.config_decode.specs.declared.fault.DecodeFault.{DecodeFault}
use Rattle.config_decode.specs.declared.fault.DecodeFault.TheVariants.{TooLarge, Wire, Unsupported, Memory}
use Rattle.config_decode.specs.declared.walk.Walker.{Walker}
use Rattle.config_decode.specs.declared.profile.Kind.{Kind}
use Rattle.config_decode.specs.Profile.{refuses}
use Rattle.config_decode.specs.Walk.{Packed, Walked, first_refused}

-- an error of a walk: its first wire fault, or want of memory
abbrev pub FailsAt : Option WireFault → DecodeFault → Type 0
FailsAt fault (Wire found) = fault ≡ Some found
FailsAt fault Memory = Unit {0}
FailsAt fault (TooLarge size) = ⊥
FailsAt fault (Unsupported path) = ⊥

-- A walk without a fault leaves the walker where it was, with the first record that isn't supported.
pub record LeavesOff (walked : Walked) (old new : Walker) : Type 0 where
  pub whole : walked.fault ≡ None
  pub path : new.path.items ≡ old.path.items
  pub found : new.unsupported ≡ option_or old.unsupported (first_refused walked.records)

-- the call came to the walk's end, or failed at its first fault or for want of memory
abbrev pub Walks : Walked → Walker → Walker → Result Unit DecodeFault → Type 0
Walks walked old new (Ok done) = LeavesOff walked old new
Walks walked old new (Err fault) = FailsAt walked.fault fault

-- The walker goes on to a record of its message, and has it if it is the first that isn't supported.
pub record GoesTo (kind : Kind) (field : FieldOf) (old new : Walker) : Type 0 where
  pub path : new.path.items ≡ old.path.items ++ field.number ∷ []
  pub found : new.unsupported ≡ option_or old.unsupported (if refuses kind field then Some new.path.items else None)

-- the call found the first record that isn't supported, unless there is a fault
abbrev pub IsUnsupported : Walked → Result (Option (List ℕ)) DecodeFault → Type 0
IsUnsupported walked (Ok found) = (walked.fault ≡ None) × (found ≡ first_refused walked.records)
IsUnsupported walked (Err fault) = FailsAt walked.fault fault

-- the call read packed numbers to their end, or failed at the first that isn't whole
abbrev pub PacksWell : Packed → Result Unit WireFault → Type 0
PacksWell packed (Ok done) = packed.fault ≡ None
PacksWell packed (Err fault) = packed.fault ≡ Some fault
