-- What holds of the records of any bytes. The payloads of messages, joined and read as one, say what each says by
-- itself; and a message says the same wherever it stands. Where the walk of a configuration passes a message, that
-- message and those inside it have no fault, and its trees are read to their last level.
use Rattle.std.specs.Prelude.{◌≡◌, ℕ, ◌+◌, ◌-◌, ◌<◌, ◌≤◌, List, [], ◌∷◌, ◌++◌, map, None, All}
use Rattle.std.specs.List.{concat}
use Rattle.proto_wire.specs.Fields.{BodyOf, Bytes, FieldOf, Rest}
use Rattle.proto_wire.specs.WireReading.{Walk, walk_from}
use Rattle.config_decode.specs.declared.profile.Kind.{Kind}
use Rattle.config_decode.specs.declared.profile.Kind.TheVariants.{Config, FieldMatcher, FieldTest}
use Rattle.config_decode.specs.declared.profile.Shape.TheVariants.{Message}
use Rattle.config_decode.specs.Profile.{shape_of}
use Rattle.config_decode.specs.Walk.{most_levels, walk_in, walk_of}
use Rattle.config_decode.specs.Tree.{field_matcher_in, field_matcher_of, field_test_in, field_test_of}
use Rattle.config_decode.specs.Values.{records_of, records_of_all, payloads}

-- what a record says, but not where it stands: its number, and what it holds
abbrev pub content : FieldOf → ℕ × BodyOf
content field = (field.number, field.body)

-- what records say, in order
abbrev pub contents : List FieldOf → List (ℕ × BodyOf)
contents fields = map content fields

-- the bytes, read as a message that begins at this place of the whole and is so deep in it
abbrev pub read_at : ℕ → ℕ → List ℕ → Walk
read_at at depth bytes = walk_from (record { bytes = bytes; at = at; depth = depth })

-- read so, the bytes have no fault
abbrev pub IsReadWholeAt : ℕ → ℕ → List ℕ → Type 0
IsReadWholeAt at depth bytes = (read_at at depth bytes).fault ≡ None

-- read by themselves, the bytes have no fault
abbrev pub IsReadWhole : List ℕ → Type 0
IsReadWhole bytes = IsReadWholeAt 0 0 bytes

-- These payloads, joined as bytes and read as one message, have no fault and say in order what the records of each say.
pub record AreReadAsOne (payloads : List (List ℕ)) : Type 0 where
  pub whole : IsReadWhole (concat payloads)
  pub same : contents (records_of (concat payloads)) ≡ contents (records_of_all payloads)

-- it is so for any payloads that have no fault by themselves
abbrev pub PayloadsAreReadAsOne : Type 0
PayloadsAreReadAsOne = (payloads : List (List ℕ)) → All IsReadWhole payloads → AreReadAsOne payloads

-- These bytes have no fault by themselves, and say then what they say at this place and so deep.
pub record SaysTheSame (at depth : ℕ) (bytes : List ℕ) : Type 0 where
  pub whole : IsReadWhole bytes
  pub same : contents (records_of bytes) ≡ contents (read_at at depth bytes).fields

-- it is so for any bytes that have no fault at that place and so deep
abbrev pub MessagesSayTheSameAnywhere : Type 0
MessagesSayTheSameAnywhere = (bytes : List ℕ) (at depth : ℕ) → IsReadWholeAt at depth bytes → SaysTheSame at depth bytes

-- The walk goes without a fault through this message, to which these numbers lead. It may go as many levels further as
-- the message's depth leaves of a hundred.
abbrev pub Passes : List ℕ → Kind → Rest → Type 0
Passes above kind rest = (walk_in (most_levels - rest.depth) above kind rest).fault ≡ None

-- The payload of a record of a message so deep, as a message of such a kind: it isn't too deep, read where it stands it
-- has no fault, and the walk goes through it without one.
pub record PassesInside (above : List ℕ) (depth : ℕ) (field : FieldOf) (inner : Kind) (payload : List ℕ) : Type 0 where
  pub shallow : depth < most_levels
  pub whole : IsReadWholeAt field.payload_at (depth + 1) payload
  pub passed : Passes (above ++ field.number ∷ []) inner
      (record { bytes = payload; at = field.payload_at; depth = depth + 1 })

-- if the profile lists a message for this record of such a message, it is so for the record's payload
abbrev pub PassesRecord : List ℕ → Kind → ℕ → FieldOf → Type 0
PassesRecord above kind depth field = (inner : Kind) (payload : List ℕ)
    → shape_of kind field.number ≡ Message inner → field.body ≡ Bytes payload
    → PassesInside above depth field inner payload

-- A message has no fault, and neither has any listed message inside it. So the payloads of each of its fields that
-- hold messages have no fault by themselves, and are read as one.
pub record IsWholeMessage (above : List ℕ) (kind : Kind) (rest : Rest) : Type 0 where
  pub whole : (walk_from rest).fault ≡ None
  pub inside : All (PassesRecord above kind rest.depth) (walk_from rest).fields
  pub alone : (number : ℕ) (inner : Kind) → shape_of kind number ≡ Message inner
      → All IsReadWhole (payloads number (walk_from rest).fields)
  pub as_one : (number : ℕ) (inner : Kind) → shape_of kind number ≡ Message inner
      → AreReadAsOne (payloads number (walk_from rest).fields)

-- it is so for any message that the walk passes
abbrev pub PassedMessagesAreWhole : Type 0
PassedMessagesAreWhole = (above : List ℕ) (kind : Kind) (rest : Rest)
    → Passes above kind rest → IsWholeMessage above kind rest

-- What a tree of field numbers says is the same with more levels, where its fields say what a passed message says.
abbrev pub FieldMatchersAreWhole : Type 0
FieldMatchersAreWhole = (above : List ℕ) (rest : Rest) (fields : List FieldOf)
    → Passes above FieldMatcher rest → contents fields ≡ contents (walk_from rest).fields
    → (levels : ℕ) → most_levels ≤ levels → field_matcher_in levels fields ≡ field_matcher_of fields

-- and so is what a test of a field says
abbrev pub FieldTestsAreWhole : Type 0
FieldTestsAreWhole = (above : List ℕ) (rest : Rest) (fields : List FieldOf)
    → Passes above FieldTest rest → contents fields ≡ contents (walk_from rest).fields
    → (levels : ℕ) → most_levels ≤ levels → field_test_in levels fields ≡ field_test_of fields

-- where the walk of a configuration has no fault, it passes the message at the top
abbrev pub TheTopIsPassed : Type 0
TheTopIsPassed = (bytes : List ℕ) → (walk_of bytes).fault ≡ None
    → Passes [] Config (record { bytes = bytes; at = 0; depth = 0 })
