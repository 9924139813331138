-- The walk over a configuration: its records in their order, up to its first wire fault. What a listed message holds is
-- walked at once, before the next record.
use Rattle.std.specs.Prelude.{ℕ, zero, suc, List, [], ◌∷◌, ◌++◌, ◌==◌, length, Option, Some, None, Result, Ok, Err, if◌then◌else◌}
use Rattle.std.specs.Option.{option_or}
use Rattle.proto_wire.specs.declared.fault.WireFault.{WireFault}
use Rattle.proto_wire.specs.Fields.{BodyOf, Bytes, FieldOf, Rest}
use Rattle.proto_wire.specs.WireReading.{varint_at, inside_at, walk_from}
use Rattle.config_decode.specs.declared.profile.Kind.{Kind}
use Rattle.config_decode.specs.declared.profile.Kind.TheVariants.{Config}
use Rattle.config_decode.specs.declared.profile.Shape.{Shape}
use Rattle.config_decode.specs.declared.profile.Shape.TheVariants.{Numbers, Message}
use Rattle.config_decode.specs.Profile.{shape_of, refuses}

-- numbers packed into one record, up to the first that isn't whole
pub record Packed : Type 0 where
  pub numbers : List ℕ
  pub fault : Option WireFault

-- a number and what comes after it, or the fault
abbrev pub packed_on : (List ℕ → Packed) → Result (ℕ × List ℕ) WireFault → Packed
packed_on after (Ok first) =
    let others = after first.1 in record { numbers = first.0 ∷ others.numbers; fault = others.fault }
packed_on after (Err fault) = record { numbers = []; fault = Some fault }

-- in at most so many turns
unfoldable pub packed_in : ℕ → ℕ → List ℕ → Packed
packed_in zero at bytes = record { numbers = []; fault = None }
packed_in (suc turns) at bytes =
    if length bytes == 0 then record { numbers = []; fault = None }
    else packed_on (packed_in turns at) (varint_at at bytes)

-- the numbers of a packed record, which begins at this place
unfoldable pub packed_at : ℕ → List ℕ → Packed
packed_at at bytes = packed_in (length bytes) at bytes

-- A record, the numbers that lead from the top to it, and the message in which it stands.
pub record Located : Type 0 where
  pub path : List ℕ
  pub kind : Kind
  pub field : FieldOf

-- records, up to the first wire fault
pub record Walked : Type 0 where
  pub records : List Located
  pub fault : Option WireFault

-- these records, without a fault
abbrev pub walk_of_records : List Located → Walked
walk_of_records records = record { records = records; fault = None }

-- no record, and then this fault, if it is one
abbrev pub walk_to_fault : Option WireFault → Walked
walk_to_fault fault = record { records = []; fault = fault }

-- a second walk comes only after one without a fault
abbrev pub records_unless : Option WireFault → List Located → List Located
records_unless None records = records
records_unless (Some fault) records = []

-- one walk, and then another
abbrev pub and_then : Walked → Walked → Walked
and_then first second = record {
  records = first.records ++ records_unless first.fault second.records;
  fault = option_or first.fault second.fault;
}

-- what is one level deeper, or that it is too deep
abbrev pub walk_of_entry : (Rest → Walked) → Result Rest WireFault → Walked
walk_of_entry walk (Ok inside) = walk inside
walk_of_entry walk (Err fault) = walk_to_fault (Some fault)

-- What a record holds, where messages inside are walked by the first argument. A packed record is read to its end;
-- nothing else is looked into.
abbrev pub walk_of_body : (Kind → Rest → Walked) → ℕ → FieldOf → Shape → BodyOf → Walked
walk_of_body walk depth field (Message kind) (Bytes bytes) = walk_of_entry (walk kind) (inside_at depth field)
walk_of_body walk depth field Numbers (Bytes bytes) = walk_to_fault (packed_at field.at bytes).fault
walk_of_body walk depth field _ body = walk_of_records []

-- a record of such a message, with what it holds
abbrev pub walk_of_record : (List ℕ → Kind → Rest → Walked) → Kind → List ℕ → ℕ → FieldOf → Walked
walk_of_record walk kind above depth field =
    let path = above ++ field.number ∷ [] in
    let here : Located = record { path = path; kind = kind; field = field } in
    and_then (walk_of_records (here ∷ []))
    (walk_of_body (walk path) depth field (shape_of kind field.number) field.body)

-- these records, and then the fault that ended their message
abbrev pub walk_of_all : (FieldOf → Walked) → List FieldOf → Option WireFault → Walked
walk_of_all walk [] fault = walk_to_fault fault
walk_of_all walk (field ∷ fields) fault = and_then (walk field) (walk_of_all walk fields fault)

-- A message, to which these numbers lead, where messages inside are walked by the first argument.
abbrev pub walk_of_message : (List ℕ → Kind → Rest → Walked) → List ℕ → Kind → Rest → Walked
walk_of_message walk above kind rest =
    let fields = walk_from rest in
    walk_of_all (walk_of_record walk kind above rest.depth) fields.fields fields.fault

-- How many messages may stand inside one another. What is deeper is a fault of the wire format.
abbrev pub most_levels : ℕ
most_levels = 100

-- A message with so many levels inside it; at the last, nothing is entered.
unfoldable pub walk_in : ℕ → List ℕ → Kind → Rest → Walked
walk_in zero = walk_of_message (λ above kind rest. walk_of_records [])
walk_in (suc levels) = walk_of_message (walk_in levels)

-- how the messages inside such a message are walked
abbrev pub inner_walk : ℕ → List ℕ → Kind → Rest → Walked
inner_walk zero above kind rest = walk_of_records []
inner_walk (suc levels) above kind rest = walk_in levels above kind rest

-- the whole configuration
unfoldable pub walk_of : List ℕ → Walked
walk_of bytes = walk_in most_levels [] Config (record { bytes = bytes; at = 0; depth = 0 })

-- the path of the first record that isn't supported
abbrev pub first_refused : List Located → Option (List ℕ)
first_refused [] = None
first_refused (found ∷ others) = if refuses found.kind found.field then Some found.path else first_refused others
