-- Lemmas on `specs/Walk.antt` and `specs/Walks.antt`, for the walker and PassLemmas: a walk, record by record.
use Rattle.std.proofs.Common.{◌≡◌, ℕ, zero, suc, ◌+◌, ◌-◌, ◌<◌, List, [], ◌∷◌, ◌++◌, length, Bool, true, false, Option, None, Some, Result, Ok, Err, refl, sym, ap, ◌∙◌, subst, arith}
use Rattle.std.specs.Prelude.{if◌then◌else◌, nat_lt}
use Rattle.std.specs.Option.{option_or, IfSome}
use Rattle.std.proofs.lemmas.Bool.{ltb-true}
use Rattle.std.proofs.lemmas.Result.{IfOk-at_ok}
use Rattle.proto_wire.specs.declared.fault.WireFault.{WireFault}
use Rattle.proto_wire.specs.WireCauses.{cause_too_deep}
use Rattle.proto_wire.specs.declared.field.Field.{Field}
use Rattle.proto_wire.specs.Fields.{FieldOf, Rest, field_view, inside_of, FitsOffsets, StepsOver}
use Rattle.proto_wire.specs.WireReading.{fault_at, Walk, with_field, walk_end, inside_at, walk_from, walk_by, AnswersNext}
use Rattle.proto_wire.specs.Grammar.{StartsWith}
use Rattle.proto_wire.proofs.RestReading.{field_at-read}
use Rattle.config_decode.specs.declared.fault.DecodeFault.{DecodeFault}
use Rattle.config_decode.specs.declared.fault.DecodeFault.TheVariants.{TooLarge, Wire, Unsupported, Memory}
use Rattle.config_decode.specs.declared.profile.Kind.{Kind}
use Rattle.config_decode.specs.declared.profile.Kind.TheVariants.{Config}
use Rattle.config_decode.specs.declared.walk.Walker.{Walker}
use Rattle.config_decode.specs.Profile.{refuses}
use Rattle.config_decode.specs.Walk.{Located, Walked, walk_to_fault, and_then, walk_of_entry, walk_of_record, walk_of_all, walk_of_message, walk_in, walk_of, inner_walk, first_refused}
use Rattle.config_decode.specs.Walks.{FailsAt, LeavesOff, Walks}

or_else : (test : Bool) (path : List ℕ) (first second : Option (List ℕ))
    → (if test then Some path else option_or first second) ≡ option_or (if test then Some path else first) second
or_else true path first second = refl
or_else false path first second = refl

-- the first of two lists is that of the first list, or else that of the second
first_refused-append : (front back : List Located)
    → first_refused (front ++ back) ≡ option_or (first_refused front) (first_refused back)
first_refused-append [] back = refl
first_refused-append (found ∷ others) back =
    ap (λ (rest : Option (List ℕ)). if refuses found.kind found.field then Some found.path else rest)
    (first_refused-append others back)
    ∙ or_else (refuses found.kind found.field) found.path (first_refused others) (first_refused back)

or-none : {A : Type 0} (first : Option A) → first ≡ option_or first None
or-none None = refl
or-none (Some x) = refl

or-assoc : {A : Type 0} (first second third : Option A)
    → option_or (option_or first second) third ≡ option_or first (option_or second third)
or-assoc None second third = refl
or-assoc (Some x) second third = refl

-- one walk after another
module _ (first second : Walked) (old mid last : Walker) (left : LeavesOff first old mid) where
  leaves-then : LeavesOff second mid last → LeavesOff (and_then first second) old last
  leaves-then after = record {
    whole = rw left.whole after.whole;
    path = after.path ∙ left.path;
    found = rw (left.whole, first_refused-append first.records second.records) (after.found
        ∙ ap (λ (found : Option (List ℕ)). option_or found (first_refused second.records)) left.found
        ∙ or-assoc old.unsupported (first_refused first.records) (first_refused second.records));
  }

  pub walks-then : (result : Result Unit DecodeFault) → Walks second mid last result
      → Walks (and_then first second) old last result
  walks-then (Ok done) after = leaves-then after
  walks-then (Err fault) after = rw left.whole after

-- a fault of the first walk is the fault of both
pub fails-first : (first second : Walked) (fault : DecodeFault) → FailsAt first.fault fault
    → FailsAt (and_then first second).fault fault
fails-first first second (Wire found) failed = rw failed refl
fails-first first second Memory failed = tt
fails-first first second (TooLarge size) failed = failed
fails-first first second (Unsupported path) failed = failed

-- how a message is walked by its levels
walk_in-message : (levels : ℕ) → walk_in levels ≡ walk_of_message (inner_walk levels)
unfolding walk_in
walk_in-message zero = refl
walk_in-message (suc levels) = refl

-- the walk of a message goes from record to record
module _ (levels : ℕ) (above : List ℕ) (kind : Kind) where
  abbrev fields_walked : ℕ → Walk → Walked
  fields_walked depth fields =
      walk_of_all (walk_of_record (inner_walk levels) kind above depth) fields.fields fields.fault

  walk_in-fields : (rest : Rest) (fields : Walk) → walk_from rest ≡ fields
      → walk_in levels above kind rest ≡ fields_walked rest.depth fields
  walk_in-fields rest fields is =
      ap (λ (walk : List ℕ → Kind → Rest → Walked). walk above kind rest) (walk_in-message levels)
      ∙ ap (fields_walked rest.depth) is

  walk_in-field : (rest new : Rest) (field : FieldOf) (depth : ℕ) → walk_from rest ≡ with_field field (walk_from new)
      → rest.depth ≡ depth → new.depth ≡ depth
      → walk_in levels above kind rest
      ≡ and_then (walk_of_record (inner_walk levels) kind above depth field) (walk_in levels above kind new)
  walk_in-field rest new field depth is here there =
      walk_in-fields rest _ is
      ∙ ap (λ (d : ℕ). fields_walked d (with_field field (walk_from new))) here
      ∙ ap (and_then (walk_of_record (inner_walk levels) kind above depth field))
      (ap (λ (d : ℕ). fields_walked d (walk_from new)) (sym there) ∙ sym (walk_in-fields new (walk_from new) refl))

  walk_in-end : (rest : Rest) (fault : Option WireFault) → walk_from rest ≡ walk_end fault
      → walk_in levels above kind rest ≡ walk_to_fault fault
  walk_in-end rest fault is = walk_in-fields rest _ is

  -- a message that can't be read further
  pub halts : (rest : Rest) (fault : WireFault) → walk_from rest ≡ walk_end (Some fault)
      → (walk_in levels above kind rest).fault ≡ Some fault
  halts rest fault is = ap (λ (walked : Walked). walked.fault) (walk_in-end rest (Some fault) is)

  -- a message at its end
  pub ends : (rest : Rest) (walker : Walker) → walk_from rest ≡ walk_end None
      → LeavesOff (walk_in levels above kind rest) walker walker
  ends rest walker is =
      subst (λ (walked : Walked). LeavesOff walked walker walker) (sym (walk_in-end rest None is))
      (record { whole = refl; path = refl; found = or-none walker.unsupported })

-- A call for the next field took this one.
pub record Takes (rest : Rest) (field : FieldOf) (new : Rest) : Type 0 where
  pub walk : walk_from rest ≡ with_field field (walk_from new)
  pub depth : new.depth ≡ rest.depth
  pub shorter : length new.bytes < length rest.bytes
  pub within : FitsOffsets field

pub takes : (rest new : Rest) (found : Option Field) (field : Field) → found ≡ Some field
    → AnswersNext rest (Ok found) new → walk_from rest ≡ walk_by (Ok found) new
    → IfSome found (λ f. StepsOver rest (field_view f) new) → Takes rest (field_view field) new
takes rest new None field is read walk step = absurd (cc is)
takes rest new (Some given) field is read walk step =
    let same : given ≡ field = cc is in
    let stands = IfOk-at_ok (λ read. StartsWith rest read.0 read.1) read (field_at-read rest) in
    subst (λ (f : Field). Takes rest (field_view f) new) same (record {
      walk = walk;
      depth = ap (λ (r : Rest). r.depth) stands.moved;
      shorter = step.shorter;
      within = step.within;
    })

-- A call for the next field found none.
pub takes_none : (rest new : Rest) (found : Option Field) → found ≡ None → walk_from rest ≡ walk_by (Ok found) new
    → walk_from rest ≡ walk_end None
takes_none rest new None is walk = walk
takes_none rest new (Some given) is walk = absurd (cc is)

-- a record of a message, and then the rest of the message
module _ (depth : ℕ) (above : List ℕ) (kind : Kind) (rest new : Rest) (field : FieldOf) (old : Walker)
    (taken : Takes rest field new) (here : rest.depth ≡ depth) (path : old.path.items ≡ above) where
  abbrev walked_at : List ℕ → ℕ → Walked
  walked_at above depth = walk_of_record (inner_walk (100 - depth)) kind above depth field

  first_is : walked_at old.path.items new.depth ≡ walked_at above depth
  first_is = ap (λ (a : List ℕ). walked_at a new.depth) path ∙ ap (walked_at above) (taken.depth ∙ here)

  both_are : walk_in (100 - depth) above kind rest
      ≡ and_then (walked_at above depth) (walk_in (100 - depth) above kind new)
  both_are = walk_in-field (100 - depth) above kind rest new field depth taken.walk here (taken.depth ∙ here)

  pub goes_on : (mid last : Walker) → LeavesOff (walked_at old.path.items new.depth) old mid
      → (result : Result Unit DecodeFault) → Walks (walk_in (100 - depth) above kind new) mid last result
      → Walks (walk_in (100 - depth) above kind rest) old last result
  goes_on mid last left result after =
      let first : LeavesOff (walked_at above depth) old mid =
      subst (λ (walked : Walked). LeavesOff walked old mid) first_is left in
      subst (λ (walked : Walked). Walks walked old last result) (sym both_are)
      (walks-then (walked_at above depth) (walk_in (100 - depth) above kind new) old mid last first result after)

  pub breaks_off : (fault : DecodeFault) → FailsAt (walked_at old.path.items new.depth).fault fault
      → FailsAt (walk_in (100 - depth) above kind rest).fault fault
  breaks_off fault failed =
      let first : FailsAt (walked_at above depth).fault fault =
      subst (λ (walked : Walked). FailsAt walked.fault fault) first_is failed in
      subst (λ (walked : Walked). FailsAt walked.fault fault) (sym both_are)
      (fails-first (walked_at above depth) (walk_in (100 - depth) above kind new) fault first)

-- a message inside is one level deeper
pub record Enters (depth : ℕ) (field : FieldOf) (inside : Rest) : Type 0 where
  pub deeper : inside.depth ≡ depth + 1
  pub shallow : depth < 100

abbrev inside_of_field : ℕ → FieldOf → Rest
inside_of_field depth field = record { bytes = inside_of field.body; at = field.payload_at; depth = depth + 1 }

pub enters : (depth : ℕ) (field : FieldOf) (inside : Rest) → Ok inside ≡ inside_at depth field
    → Enters depth field inside
unfolding inside_at
enters depth field inside is = by_test (nat_lt depth 100) refl is
  where
    by_test : (test : Bool) → nat_lt depth 100 ≡ test
        → Ok inside ≡ (if test then Ok (inside_of_field depth field) else Err (fault_at field.at cause_too_deep))
        → Enters depth field inside
    by_test true low is = let there : inside ≡ inside_of_field depth field = cc is in record {
      deeper = ap (λ (r : Rest). r.depth) there;
      shallow = ltb-true _ _ low;
    }
    by_test false low is = absurd (cc is)

one_less : (levels : ℕ) (above : List ℕ) (kind : Kind) (inside : Rest) (more : ℕ) → more ≡ suc levels
    → inner_walk more above kind inside ≡ walk_in levels above kind inside
one_less levels above kind inside more is = ap (λ (n : ℕ). inner_walk n above kind inside) is

pub inside-is : (depth : ℕ) (above : List ℕ) (kind : Kind) (field : FieldOf) (inside : Rest)
    → Ok inside ≡ inside_at depth field
    → walk_of_entry (inner_walk (100 - depth) above kind) (inside_at depth field)
    ≡ walk_in (100 - inside.depth) above kind inside
inside-is depth above kind field inside is =
    let there = enters depth field inside is in
    let more : 100 - depth ≡ suc (100 - inside.depth) = omega (arith, there.deeper, there.shallow) in
    ap (walk_of_entry (inner_walk (100 - depth) above kind)) (sym is)
    ∙ one_less (100 - inside.depth) above kind inside (100 - depth) more

-- the whole is walked from its top
top-is : (bytes : List ℕ) → walk_in 100 [] Config (record { bytes = bytes; at = 0; depth = 0 }) ≡ walk_of bytes
unfolding walk_of
top-is bytes = refl

pub whole-is : (bytes above : List ℕ) (rest : Rest) → above ≡ [] → rest ≡ record { bytes = bytes; at = 0; depth = 0 }
    → walk_in (100 - rest.depth) above Config rest ≡ walk_of bytes
whole-is bytes above rest path there =
    ap (λ (a : List ℕ). walk_in (100 - rest.depth) a Config rest) path
    ∙ ap (λ (r : Rest). walk_in (100 - r.depth) [] Config r) there
    ∙ top-is bytes

-- a walker that had found nothing has the first record of the whole that isn't supported
pub finds-first : (bytes above : List ℕ) (rest : Rest) (old last : Walker) → above ≡ []
    → rest ≡ record { bytes = bytes; at = 0; depth = 0 } → old.unsupported ≡ None
    → LeavesOff (walk_in (100 - rest.depth) above Config rest) old last
    → ((walk_of bytes).fault ≡ None) × (last.unsupported ≡ first_refused (walk_of bytes).records)
finds-first bytes above rest old last path there none left =
    let whole : LeavesOff (walk_of bytes) old last =
    subst (λ (walked : Walked). LeavesOff walked old last) (whole-is bytes above rest path there) left in (
      whole.whole,
      whole.found ∙ ap (λ (found : Option (List ℕ)). option_or found (first_refused (walk_of bytes).records)) none,
    )
