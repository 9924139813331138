-- Lemmas on `specs/Laws.antt`, for the laws of the walk: a message that it passes has no fault, and neither has any
-- listed message inside.
use Rattle.std.proofs.Common.{◌≡◌, ℕ, zero, suc, ◌+◌, ◌-◌, List, [], ◌∷◌, ◌++◌, Bool, true, false, Option, None, Some, Ok, Err, refl, sym, ap, ◌∙◌, subst}
use Rattle.std.specs.Prelude.{if◌then◌else◌, nat_lt, ◌==◌, All}
use Rattle.std.specs.Option.{option_or}
use Rattle.std.specs.List.{flat_map}
use Rattle.std.proofs.lemmas.Bool.{eqb-true}
use Rattle.std.proofs.lemmas.List.Elements.{All-nil, All-cons, All-head, All-tail, All-append, All-weaker}
use Rattle.proto_wire.specs.declared.fault.WireFault.{WireFault}
use Rattle.proto_wire.specs.WireCauses.{cause_too_deep}
use Rattle.proto_wire.specs.Fields.{BodyOf, Varint, Fixed64, Bytes, Group, Fixed32, FieldOf, Rest, inside_of}
use Rattle.proto_wire.specs.WireReading.{fault_at, inside_at, walk_from}
use Rattle.config_decode.specs.declared.profile.Kind.{Kind}
use Rattle.config_decode.specs.declared.profile.Shape.{Shape}
use Rattle.config_decode.specs.declared.profile.Shape.TheVariants.{Message}
use Rattle.config_decode.specs.Profile.{shape_of}
use Rattle.config_decode.specs.Values.{bytes_held, with_number, payloads}
use Rattle.config_decode.specs.Walk.{Walked, walk_of_entry, walk_of_body, walk_of_record, walk_of_all, walk_of_message, walk_in, inner_walk}
use Rattle.config_decode.specs.Laws.{IsReadWhole, Passes, PassesRecord, PassedMessagesAreWhole, TheTopIsPassed}
use Rattle.config_decode.proofs.JoinLemmas.{same_anywhere, read_as_one}
use Rattle.config_decode.proofs.WalkLemmas.{enters, inside-is, whole-is}

-- A walk has no fault.
abbrev IsPassed : Walked → Type 0
IsPassed walked = walked.fault ≡ None

-- neither of two is there
record AreNone (first second : Option WireFault) : Type 0 where
  one : first ≡ None
  two : second ≡ None

are_none : (first second : Option WireFault) → option_or first second ≡ None → AreNone first second
are_none None second none = record { one = refl; two = none }
are_none (Some fault) second none = absurd (cc none)

-- every record is passed, and the fields have no fault
record ArePassed (walk : FieldOf → Walked) (fields : List FieldOf) (fault : Option WireFault) : Type 0 where
  each : All (λ field. IsPassed (walk field)) fields
  whole : fault ≡ None

are_passed : (walk : FieldOf → Walked) (fields : List FieldOf) (fault : Option WireFault)
    → IsPassed (walk_of_all walk fields fault) → ArePassed walk fields fault
are_passed walk [] fault none = record { each = All-nil (λ field. IsPassed (walk field)); whole = none }
are_passed walk (field ∷ fields) fault none =
    let both = are_none (walk field).fault (walk_of_all walk fields fault).fault none in
    let others = are_passed walk fields fault both.two in record {
      each = All-cons (λ field. IsPassed (walk field)) field fields both.one others.each;
      whole = others.whole;
    }

-- how a message is walked by its levels
by_levels : (levels : ℕ) (above : List ℕ) (kind : Kind) (rest : Rest) → IsPassed (walk_in levels above kind rest)
    → IsPassed (walk_of_message (inner_walk levels) above kind rest)
unfolding walk_in
by_levels zero above kind rest none = none
by_levels (suc levels) above kind rest none = none

-- the records of a message that is passed
records_pass : (above : List ℕ) (kind : Kind) (rest : Rest) → Passes above kind rest
    → ArePassed (walk_of_record (inner_walk (100 - rest.depth)) kind above rest.depth)
    (walk_from rest).fields (walk_from rest).fault
records_pass above kind rest none = are_passed _ (walk_from rest).fields (walk_from rest).fault
    (by_levels (100 - rest.depth) above kind rest none)

abbrev inside_of_field : ℕ → FieldOf → Rest
inside_of_field depth field = record { bytes = inside_of field.body; at = field.payload_at; depth = depth + 1 }

-- what is passed was entered
was_entered : (walk : Rest → Walked) (depth : ℕ) (field : FieldOf)
    → IsPassed (walk_of_entry walk (inside_at depth field))
    → Ok (inside_of_field depth field) ≡ inside_at depth field
unfolding inside_at
was_entered walk depth field none = by_test (nat_lt depth 100) none
  where
    by_test : (test : Bool)
        → IsPassed (walk_of_entry walk
        (if test then Ok (inside_of_field depth field) else Err (fault_at field.at cause_too_deep)))
        → Ok (inside_of_field depth field)
        ≡ (if test then Ok (inside_of_field depth field) else Err (fault_at field.at cause_too_deep))
    by_test true none = refl
    by_test false none = absurd (cc none)

-- a record that is passed
module _ (above : List ℕ) (kind : Kind) (depth : ℕ) (field : FieldOf) where
  abbrev path : List ℕ
  path = above ++ field.number ∷ []

  abbrev inner : Kind → Rest → Walked
  inner = inner_walk (100 - depth) path

  abbrev body_walked : Shape → BodyOf → Walked
  body_walked shape body = walk_of_body inner depth field shape body

  inside_passes : (inner_kind : Kind) → IsPassed (walk_of_entry (inner inner_kind) (inside_at depth field))
      → Passes path inner_kind (inside_of_field depth field)
  inside_passes inner_kind none =
      ap (λ (walked : Walked). walked.fault)
      (sym (inside-is depth path inner_kind field (inside_of_field depth field)
      (was_entered (inner inner_kind) depth field none)))
      ∙ none

  -- with these bytes as its payload
  abbrev payload_of : List ℕ → Rest
  payload_of payload = record { bytes = payload; at = field.payload_at; depth = depth + 1 }

  record_passes : IsPassed (walk_of_record (inner_walk (100 - depth)) kind above depth field)
      → PassesRecord above kind depth field
  record_passes none inner_kind payload shape body =
      let inside : IsPassed (body_walked (Message inner_kind) (Bytes payload)) =
      subst (λ (b : BodyOf). IsPassed (body_walked (Message inner_kind) b)) body
      (subst (λ (s : Shape). IsPassed (body_walked s field.body)) shape none) in
      let passed : Passes path inner_kind (payload_of payload) =
      subst (λ (b : BodyOf). Passes path inner_kind (payload_of (inside_of b))) body
      (inside_passes inner_kind inside) in
      let entered : Ok (inside_of_field depth field) ≡ inside_at depth field =
      was_entered (inner inner_kind) depth field inside in
      record {
        shallow = (enters depth field (inside_of_field depth field) entered).shallow;
        whole = (records_pass path inner_kind (payload_of payload) passed).whole;
        passed = passed;
      }

-- the payloads of a field that holds messages have no fault by themselves
module _ (above : List ℕ) (kind : Kind) (depth number : ℕ) (inner : Kind)
    (shape : shape_of kind number ≡ Message inner) where
  -- what one record adds
  body_whole : (field : FieldOf) → PassesRecord above kind depth field → field.number ≡ number
      → (body : BodyOf) → field.body ≡ body → All IsReadWhole (bytes_held body)
  body_whole field passes same (Bytes payload) is =
      let inside = passes inner payload (ap (shape_of kind) same ∙ shape) is in
      All-cons IsReadWhole payload [] (same_anywhere payload field.payload_at (depth + 1) inside.whole).whole
      (All-nil IsReadWhole)
  body_whole field passes same (Varint value) is = All-nil IsReadWhole
  body_whole field passes same (Fixed64 value) is = All-nil IsReadWhole
  body_whole field passes same (Fixed32 value) is = All-nil IsReadWhole
  body_whole field passes same (Group bytes) is = All-nil IsReadWhole

  one_more : (field : FieldOf) (fields : List FieldOf) → PassesRecord above kind depth field
      → All IsReadWhole (payloads number fields) → All IsReadWhole (payloads number (field ∷ fields))
  one_more field fields passes others = by_test (field.number == number) refl
    where
      by_test : (test : Bool) → (field.number == number) ≡ test → All IsReadWhole
          (flat_map (λ (f : FieldOf). bytes_held f.body)
          (if test then field ∷ with_number number fields else with_number number fields))
      by_test true is = All-append IsReadWhole (bytes_held field.body) (payloads number fields)
          (body_whole field passes (eqb-true _ _ is) field.body refl) others
      by_test false is = others

  payloads_whole : (fields : List FieldOf) → All (PassesRecord above kind depth) fields
      → All IsReadWhole (payloads number fields)
  payloads_whole [] passes = All-nil IsReadWhole
  payloads_whole (field ∷ fields) passes =
      one_more field fields (All-head (PassesRecord above kind depth) field fields passes)
      (payloads_whole fields (All-tail (PassesRecord above kind depth) field fields passes))

pub passed_is_whole : PassedMessagesAreWhole
passed_is_whole above kind rest none =
    let records = records_pass above kind rest none in
    let inside : All (PassesRecord above kind rest.depth) (walk_from rest).fields =
    All-weaker (λ field. IsPassed (walk_of_record (inner_walk (100 - rest.depth)) kind above rest.depth field))
    (PassesRecord above kind rest.depth) (record_passes above kind rest.depth) (walk_from rest).fields records.each in
    let alone : (number : ℕ) (inner : Kind) → shape_of kind number ≡ Message inner
    → All IsReadWhole (payloads number (walk_from rest).fields) =
    λ number inner shape. payloads_whole above kind rest.depth number inner shape (walk_from rest).fields inside in
    record {
      whole = records.whole;
      inside = inside;
      alone = alone;
      as_one = λ number inner shape. read_as_one (payloads number (walk_from rest).fields) (alone number inner shape);
    }

pub top_is_passed : TheTopIsPassed
top_is_passed bytes none =
    ap (λ (walked : Walked). walked.fault)
    (whole-is bytes [] (record { bytes = bytes; at = 0; depth = 0 }) refl refl)
    ∙ none
