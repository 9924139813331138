-- Why bytes are no configuration. The definition of what they say wants no memory.
use Rattle.std.specs.Prelude.{ℕ, List, Option, Some, None}
use Rattle.proto_wire.specs.declared.fault.WireFault.{WireFault}
use Rattle.config_decode.specs.declared.fault.DecodeFault.{DecodeFault}
use Rattle.config_decode.specs.declared.fault.DecodeFault.TheVariants as code

-- More bytes than a configuration may have, and so many; or the first fault of the wire format; or else the path of the
-- first record that isn't supported.
pub data ConfigFault : Type 0 where
  TooLarge : (size : ℕ) → ConfigFault
  Wire : (fault : WireFault) → ConfigFault
  Unsupported : (path : List ℕ) → ConfigFault

-- the fault of the definition that an answer names; want of memory is none
abbrev pub config_fault_of : DecodeFault → Option ConfigFault
config_fault_of code.Memory = None
config_fault_of (code.TooLarge size) = Some (TooLarge size)
config_fault_of (code.Wire fault) = Some (Wire fault)
config_fault_of (code.Unsupported path) = Some (Unsupported path)
