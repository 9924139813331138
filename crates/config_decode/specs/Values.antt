-- What a message says: each field is found by its number among the message's records.
use Rattle.std.specs.Prelude.{ℕ, ℤ, Bool, not, ◌==◌, List, [], ◌∷◌, ◌++◌, map, Option, Some, None, if◌then◌else◌}
use Rattle.std.specs.Int.{w32, w64, cast_signed}
use Rattle.std.specs.List.{filter, filter_map, list_any, list_all, last_or, flat_map}
use Rattle.proto_wire.specs.Fields.{BodyOf, Varint, Bytes, FieldOf}
use Rattle.proto_wire.specs.WireReading.{walk_from}
use Rattle.config_decode.specs.declared.profile.Kind.{Kind}
use Rattle.config_decode.specs.declared.profile.Shape.{Shape}
use Rattle.config_decode.specs.declared.profile.Shape.TheVariants.{Message}
use Rattle.config_decode.specs.Profile.{low_half, shape_of}
use Rattle.config_decode.specs.Walk.{packed_at}

-- The records of a message. That they are whole and not too deep was judged before, by the walk.
abbrev pub records_of : List ℕ → List FieldOf
records_of bytes = (walk_from (record { bytes = bytes; at = 0; depth = 0 })).fields

-- the number of a record that holds one
abbrev pub varint_held : BodyOf → List ℕ
varint_held (Varint number) = number ∷ []
varint_held _ = []

-- all numbers of a record that may be packed
abbrev pub varints_held : BodyOf → List ℕ
varints_held (Varint number) = number ∷ []
varints_held (Bytes bytes) = (packed_at 0 bytes).numbers
varints_held _ = []

-- the bytes of a record that holds some
abbrev pub bytes_held : BodyOf → List (List ℕ)
bytes_held (Bytes bytes) = bytes ∷ []
bytes_held _ = []

-- the records with this number
abbrev pub with_number : ℕ → List FieldOf → List FieldOf
with_number number fields = filter (λ (field : FieldOf). field.number == number) fields

-- a field that holds one number: all numbers that were given for it
abbrev pub varints : ℕ → List FieldOf → List ℕ
varints number fields = flat_map (λ (field : FieldOf). varint_held field.body) (with_number number fields)

-- a field that holds numbers, packed or not
abbrev pub numbers : ℕ → List FieldOf → List ℕ
numbers number fields = flat_map (λ (field : FieldOf). varints_held field.body) (with_number number fields)

-- a field that holds bytes: strings, or the payloads of messages
abbrev pub payloads : ℕ → List FieldOf → List (List ℕ)
payloads number fields = flat_map (λ (field : FieldOf). bytes_held field.body) (with_number number fields)

-- the last record of a scalar wins
abbrev pub last : {A : Type 0} → List A → Option A
last xs = last_or None xs

-- a number as one of type int64
abbrev pub int64_of : ℕ → Option ℤ
int64_of number = Some (cast_signed w64 number)

-- as one of type int32, which is the low half of what was written
abbrev pub int32_of : ℕ → Option ℤ
int32_of number = Some (cast_signed w32 (low_half number))

-- as one of type bool, which is true but for 0
abbrev pub bool_of : ℕ → Option Bool
bool_of number = Some (not (number == 0))

-- A field that holds one number, by what a number means: the last that means anything. One that means nothing, as a
-- number outside an enum, is as if it weren't there.
abbrev pub scalar : {E : Type 0} → (ℕ → Option E) → ℕ → List FieldOf → Option E
scalar meaning number fields = last (filter_map meaning (varints number fields))

-- a field of type int64
abbrev pub int64_field : ℕ → List FieldOf → Option ℤ
int64_field number fields = scalar int64_of number fields

-- a field of type int32
abbrev pub int32_field : ℕ → List FieldOf → Option ℤ
int32_field number fields = scalar int32_of number fields

-- a field of type bool
abbrev pub bool_field : ℕ → List FieldOf → Option Bool
bool_field number fields = scalar bool_of number fields

-- an enum, by its table
abbrev pub enum_field : {E : Type 0} → (ℕ → Option E) → ℕ → List FieldOf → Option E
enum_field table number fields = scalar (λ (n : ℕ). table (low_half n)) number fields

-- a field that holds numbers, by what a number means
abbrev pub scalars : {E : Type 0} → (ℕ → Option E) → ℕ → List FieldOf → List E
scalars meaning number fields = filter_map meaning (numbers number fields)

-- a repeated field of type int64
abbrev pub int64_fields : ℕ → List FieldOf → List ℤ
int64_fields number fields = scalars int64_of number fields

-- a repeated field of type int32
abbrev pub int32_fields : ℕ → List FieldOf → List ℤ
int32_fields number fields = scalars int32_of number fields

-- each message of a repeated field, as its records
abbrev pub messages : ℕ → List FieldOf → List (List FieldOf)
messages number fields = map records_of (payloads number fields)

-- the same of a field that the profile lists as one of messages; any other has none
abbrev pub listed_messages : Kind → ℕ → List FieldOf → List (List FieldOf)
listed_messages kind number fields = by_shape (shape_of kind number) where
  by_shape : Shape → List (List FieldOf)
  by_shape (Message inner) = messages number fields
  by_shape _ = []

-- the records of all these payloads, read as one
abbrev pub records_of_all : List (List ℕ) → List FieldOf
records_of_all payloads = flat_map records_of payloads

-- the records of all these messages
abbrev pub together : List (List FieldOf) → List FieldOf
together messages = flat_map (λ (fields : List FieldOf). fields) messages

-- the one message of a field, if there is any
abbrev pub records_if_any : List (List ℕ) → Option (List FieldOf)
records_if_any [] = None
records_if_any (payload ∷ others) = Some (records_of_all (payload ∷ others))

-- a field that is a message, as the records of all its payloads
abbrev pub message : ℕ → List FieldOf → Option (List FieldOf)
message number fields = records_if_any (payloads number fields)

-- the records whose numbers are among these
abbrev pub with_numbers : List ℕ → List FieldOf → List FieldOf
with_numbers numbers fields = filter (λ (field : FieldOf). list_any (λ number. number == field.number) numbers) fields

-- whether all these records have that number
abbrev pub all_have : ℕ → List FieldOf → Bool
all_have number fields = list_all (λ (field : FieldOf). field.number == number) fields

-- the records at the end that have one number
abbrev pub last_run : List FieldOf → List FieldOf
last_run [] = []
last_run (field ∷ fields) = if all_have field.number fields then field ∷ fields else last_run fields

-- A oneof with these members: the records of the member that was set last, back to where another was set.
abbrev pub oneof_run : List ℕ → List FieldOf → List FieldOf
oneof_run numbers fields = last_run (with_numbers numbers fields)

-- the number of the first record
abbrev pub first_number : List FieldOf → Option ℕ
first_number [] = None
first_number (field ∷ fields) = Some field.number

-- a run with one more record: it goes on, or a new one begins
abbrev pub run_with : FieldOf → List FieldOf → List FieldOf
run_with field [] = field ∷ []
run_with field (first ∷ others) = if first.number == field.number then first ∷ others ++ field ∷ [] else field ∷ []
