-- Lemmas on oneofs of `specs/Values.antt`, for `Message::read_oneof_run`: the last run of records with one number, made
-- record by record.
use Rattle.std.proofs.Common.{◌≡◌, ℕ, ◌+◌, ◌<◌, Bool, true, false, refl, sym, ap, ◌∙◌}
use Rattle.std.proofs.Common.{List, [], ◌∷◌, ◌++◌, length, map, take, get_or}
use Rattle.std.specs.Prelude.{◌==◌, ◌&&◌}
use Rattle.std.specs.List.{list_any}
use Rattle.std.proofs.lemmas.Bool.{eqb-true, eqb-false, eq-eqb, ne_eqb}
use Rattle.std.proofs.lemmas.List.{map_more, append-nil}
use Rattle.std.proofs.lemmas.List.Folds.{list_all-append}
use Rattle.std.proofs.lemmas.List.Elements.{filter-append}
use Rattle.proto_wire.specs.declared.field.Field.{Field}
use Rattle.proto_wire.specs.Fields.{FieldOf, field_view}
use Rattle.config_decode.specs.Values.{all_have, last_run, run_with, with_numbers, oneof_run}

and-true : (a b : Bool) → (a && b) ≡ true → (a ≡ true) × (b ≡ true)
and-true true b both = (refl, both)
and-true false b both = absurd (cc)

-- whether all records and one more have that number
all_have-more : (number : ℕ) (fields : List FieldOf) (field : FieldOf)
    → all_have number (fields ++ field ∷ []) ≡ (all_have number fields && (field.number == number && true))
all_have-more number fields field = list_all-append _ fields (field ∷ [])

-- a test from both sides
same_back : (a b : ℕ) → (a == b) ≡ true → (b == a) ≡ true
same_back a b same = eq-eqb b a (sym (eqb-true a b same))

other_back : (a b : ℕ) → (a == b) ≡ false → (b == a) ≡ false
other_back a b other = ne_eqb b a (λ is. eqb-false a b other (sym is))

-- after records of another number a new run begins
begins : (number : ℕ) (fields : List FieldOf) (field : FieldOf) → all_have number fields ≡ true
    → (field.number == number) ≡ false → run_with field (last_run fields) ≡ field ∷ []
begins number [] field have other = refl
begins number (first ∷ fields) field have other =
    let parts = and-true (first.number == number) (all_have number fields) have in
    let same : first.number ≡ number = eqb-true first.number number parts.0 in
    let run : all_have first.number fields ≡ true = rw same parts.1 in
    let differs : (first.number == field.number) ≡ false = rw same (other_back field.number number other) in
    rw (run, differs) refl

-- what the last run is with one more record
pub last_run-push : (fields : List FieldOf) (field : FieldOf)
    → last_run (fields ++ field ∷ []) ≡ run_with field (last_run fields)
last_run-push [] field = refl
last_run-push (first ∷ fields) field =
    by_run (all_have first.number fields) (field.number == first.number) refl refl (last_run-push fields field)
  where
    more : all_have first.number (fields ++ field ∷ [])
        ≡ (all_have first.number fields && (field.number == first.number && true))
    more = all_have-more first.number fields field

    by_run : (run same : Bool) → all_have first.number fields ≡ run → (field.number == first.number) ≡ same
        → last_run (fields ++ field ∷ []) ≡ run_with field (last_run fields)
        → last_run (first ∷ (fields ++ field ∷ [])) ≡ run_with field (last_run (first ∷ fields))
    by_run true true run same shorter =
        let on : all_have first.number (fields ++ field ∷ []) ≡ true = more ∙ rw (run, same) refl in
        rw (on, run, same_back field.number first.number same) refl
    by_run true false run other shorter =
        let off : all_have first.number (fields ++ field ∷ []) ≡ false = more ∙ rw (run, other) refl in
        rw (off, run, other_back field.number first.number other)
        (shorter ∙ begins first.number fields field run other)
    by_run false same run is shorter =
        let off : all_have first.number (fields ++ field ∷ []) ≡ false = more ∙ rw run refl in
        rw (off, run) shorter

-- Records are gone through one by one, and those of some members are looked at.
module _ (members : List ℕ) (fields : List Field) (i : ℕ) (d : Field) (below : i < length fields) where
  -- what is there up to a place, and the record there
  with_more : (more : List FieldOf) → with_numbers members (field_view (get_or fields i d) ∷ []) ≡ more
      → with_numbers members (map field_view (take (i + 1) fields))
      ≡ with_numbers members (map field_view (take i fields)) ++ more
  with_more more one =
      ap (with_numbers members) (map_more field_view fields i d below)
      ∙ filter-append _ (map field_view (take i fields)) (field_view (get_or fields i d) ∷ [])
      ∙ ap (λ (m : List FieldOf). with_numbers members (map field_view (take i fields)) ++ m) one

  -- one more record of a member goes after the run, or begins a new one
  pub run_more : list_any (λ number. number == (get_or fields i d).number) members ≡ true
      → oneof_run members (map field_view (take (i + 1) fields))
      ≡ run_with (field_view (get_or fields i d)) (oneof_run members (map field_view (take i fields)))
  run_more member =
      ap last_run (with_more (field_view (get_or fields i d) ∷ []) (rw member refl))
      ∙ last_run-push (with_numbers members (map field_view (take i fields))) (field_view (get_or fields i d))

  -- another record is passed over
  pub run_same : list_any (λ number. number == (get_or fields i d).number) members ≡ false
      → oneof_run members (map field_view (take (i + 1) fields)) ≡ oneof_run members (map field_view (take i fields))
  run_same other = ap last_run (with_more [] (rw other refl) ∙ append-nil _)
