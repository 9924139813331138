-- Lemmas on `specs/Values.antt`, for the loops of `message.rt`: fields of a message, while its records are gone through
-- one by one.
use Rattle.std.proofs.Common.{◌≡◌, ℕ, zero, suc, ◌+◌, ◌^◌, ◌<◌, ◌≤◌, Bool, true, false, refl, sym, ap, ◌∙◌, subst, arith}
use Rattle.std.proofs.Common.{List, [], ◌∷◌, ◌++◌, length, map, take, get_or, Option, Some, None, Ok, Err}
use Rattle.std.specs.Prelude.{◌==◌}
use Rattle.std.specs.List.{filter, flat_map, last_or}
use Rattle.std.specs.Option.{option_to_list, IsSome}
use Rattle.std.proofs.lemmas.Bool.{eqb-true, eqb-false}
use Rattle.std.proofs.lemmas.List.{map_more, map-append, take_all}
use Rattle.std.proofs.lemmas.List.Concat.{flat_map-append}
use Rattle.std.proofs.lemmas.List.Elements.{filter-append}
use Rattle.proto_wire.specs.declared.field.Field.{Field}
use Rattle.proto_wire.specs.declared.fault.WireFault.{WireFault}
use Rattle.proto_wire.specs.Fields.{FieldOf, field_view, inside_of}
use Rattle.proto_wire.specs.WireReading.{varint_at}
use Rattle.config_decode.specs.Walk.{Packed, packed_at}
use Rattle.config_decode.specs.Short.{HaveShortPayloads}
use Rattle.config_decode.specs.Values.{varints, payloads, numbers, last, records_of_all, records_if_any, records_of, together}
use Rattle.config_decode.proofs.PackedLemmas.{packed_at-none, packed_at-some}

module _ {A : Type 0} (held : FieldOf → List A) (passes : FieldOf → Bool) where
  -- what the records that pass hold
  abbrev found : List FieldOf → List A
  found fields = flat_map held (filter passes fields)

  found-append : (fields others : List FieldOf) → found (fields ++ others) ≡ found fields ++ found others
  found-append fields others =
      ap (flat_map held) (filter-append passes fields others)
      ∙ flat_map-append held (filter passes fields) (filter passes others)

  found-more : (fields : List Field) (i : ℕ) (d : Field) → i < length fields
      → found (map field_view (take (i + 1) fields))
      ≡ found (map field_view (take i fields)) ++ found (field_view (get_or fields i d) ∷ [])
  found-more fields i d below =
      ap found (map_more field_view fields i d below)
      ∙ found-append (map field_view (take i fields)) (field_view (get_or fields i d) ∷ [])

-- What one more record adds to what is found for a number.
module _ (number : ℕ) (fields : List Field) (i : ℕ) (d : Field) (below : i < length fields) where
  pub varints_more : varints number (map field_view (take (i + 1) fields))
      ≡ varints number (map field_view (take i fields)) ++ varints number (field_view (get_or fields i d) ∷ [])
  varints_more = found-more _ _ fields i d below

  pub numbers_more : numbers number (map field_view (take (i + 1) fields))
      ≡ numbers number (map field_view (take i fields)) ++ numbers number (field_view (get_or fields i d) ∷ [])
  numbers_more = found-more _ _ fields i d below

  pub payloads_more : payloads number (map field_view (take (i + 1) fields))
      ≡ payloads number (map field_view (take i fields)) ++ payloads number (field_view (get_or fields i d) ∷ [])
  payloads_more = found-more _ _ fields i d below

  -- the numbers of one more record come after those of the others
  pub numbers_added : (old now : List ℕ)
      → old ≡ numbers number (map field_view (take i fields))
      → now ≡ old ++ numbers number (field_view (get_or fields i d) ∷ [])
      → now ≡ numbers number (map field_view (take (i + 1) fields))
  numbers_added old now before more =
      more ∙ ap (λ (l : List ℕ). l ++ numbers number (field_view (get_or fields i d) ∷ [])) before ∙ sym numbers_more

  -- what is made of one more record comes after what was made of the others
  pub made_more : {T : Type 0} (made : List ℕ → T) (old now : List T)
      → old ≡ map made (payloads number (map field_view (take i fields)))
      → now ≡ old ++ map made (payloads number (field_view (get_or fields i d) ∷ []))
      → now ≡ map made (payloads number (map field_view (take (i + 1) fields)))
  made_more made old now before more =
      more
      ∙ ap (λ l. l ++ map made (payloads number (field_view (get_or fields i d) ∷ []))) before
      ∙ sym (ap (map made) payloads_more ∙ map-append made _ _)

-- the payloads of further records
pub payloads_append : (number : ℕ) (fields others : List FieldOf)
    → payloads number (fields ++ others) ≡ payloads number fields ++ payloads number others
payloads_append number fields others = found-append _ _ fields others

-- once all records of a message were gone through, they are the message
pub all_taken : (fields items : List Field) (n : ℕ) (message : List FieldOf) → fields ≡ items → length fields ≤ n
    → map field_view items ≡ message → map field_view (take n fields) ≡ message
all_taken fields items n message is all view = ap (map field_view) (take_all n fields all ∙ is) ∙ view

-- the last of further items, if there are any
pub last_append : {A : Type 0} (o : Option A) (xs ys : List A) → last_or o (xs ++ ys) ≡ last_or (last_or o xs) ys
last_append o [] ys = refl
last_append o (x ∷ xs) ys = last_append (Some x) xs ys

some_left : (bytes : List ℕ) → false ≡ (length bytes == 0) → 0 < length bytes
some_left bytes full = let some = eqb-false (length bytes) 0 (sym full) in omega (arith, some)

-- Packed numbers, by what stands in front of them.
module _ (at : ℕ) (bytes : List ℕ) where
  -- nothing
  pub numbers-none : true ≡ (length bytes == 0) → (packed_at at bytes).numbers ≡ []
  numbers-none empty =
      ap (λ (packed : Packed). packed.numbers) (packed_at-none at bytes (eqb-true (length bytes) 0 (sym empty)))

  module _ (full : false ≡ (length bytes == 0)) where
    -- a number
    pub numbers-after : (number : ℕ) (left : List ℕ) → varint_at at bytes ≡ Ok (number, left)
        → (packed_at at bytes).numbers ≡ number ∷ (packed_at at left).numbers
    numbers-after number left read = rw (packed_at-some at bytes (some_left bytes full), read) refl

    -- no whole number
    pub numbers-broken : (fault : WireFault) → varint_at at bytes ≡ Err fault → (packed_at at bytes).numbers ≡ []
    numbers-broken fault read = rw (packed_at-some at bytes (some_left bytes full), read) refl

-- the payload of a record at some place is short, where all are
pub short_at : (fields items : List Field) (i : ℕ) (d : Field) → i < length fields → fields ≡ items
    → HaveShortPayloads (map field_view items) → length (inside_of (field_view (get_or fields i d)).body) < 2 ^ 32
short_at fields items i d below is short =
    at_place fields i below (subst (λ (f : List Field). HaveShortPayloads (map field_view f)) (sym is) short)
  where
    at_place : (fields : List Field) (i : ℕ) → i < length fields → HaveShortPayloads (map field_view fields)
        → length (inside_of (field_view (get_or fields i d)).body) < 2 ^ 32
    at_place [] i below short = absurd (omega arith)
    at_place (field ∷ fields) zero below short = short.0
    at_place (field ∷ fields) (suc i) below short = at_place fields i (omega arith) short.1

-- further records are short too
pub short_append : (fields others : List Field) → HaveShortPayloads (map field_view fields)
    → HaveShortPayloads (map field_view others) → HaveShortPayloads (map field_view (fields ++ others))
short_append [] others short more = more
short_append (field ∷ fields) others short more = (short.0, short_append fields others short.1 more)

-- the item that was taken off the end of a list is its last
pub last_taken : {A : Type 0} (xs front : List A) (taken : Option A) → xs ≡ front ++ option_to_list taken
    → (0 < length xs → IsSome taken) → taken ≡ last xs
last_taken xs front (Some x) parts there = sym (ap last parts ∙ last_append None front (x ∷ []))
last_taken [] front None parts there = refl
last_taken (x ∷ xs) front None parts there = absurd (cc (there (omega arith)))

-- the records of messages, one after another, are those of all their payloads
pub all_records : (payloads : List (List ℕ)) → together (map records_of payloads) ≡ records_of_all payloads
all_records [] = refl
all_records (payload ∷ others) = ap (λ (l : List FieldOf). records_of payload ++ l) (all_records others)

-- a field without a payload is no message
pub no_message : (payloads : List (List ℕ)) → true ≡ (length (map records_of payloads) == 0)
    → records_if_any payloads ≡ None
no_message [] none = refl
no_message (payload ∷ others) none =
    absurd (omega (arith, eqb-true (length (map records_of (payload ∷ others))) 0 (sym none)))

-- and one with any is one
pub one_message : (payloads : List (List ℕ)) → false ≡ (length (map records_of payloads) == 0)
    → records_if_any payloads ≡ Some (together (map records_of payloads))
one_message [] some = absurd (cc)
one_message (payload ∷ others) some = ap (λ (fields : List FieldOf). Some fields) (sym (all_records (payload ∷ others)))
