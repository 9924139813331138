-- The fields that a writer wrote are the contents that are read; and what is found among them by number.
use Rattle.std.proofs.Common.{◌≡◌, ℕ, ◌^◌, ◌<◌, ◌≤◌, false, List, [], ◌∷◌, ◌++◌, length, map, refl, ap, ◌∙◌, subst, arith, length-append}
use Rattle.std.specs.Prelude.{◌==◌, nat_lt, if◌then◌else◌}
use Rattle.std.specs.List.{flat_map, AllByRecursion}
use Rattle.std.proofs.lemmas.List.Concat.{flat_map-cons}
use Rattle.std.proofs.lemmas.Bool.{eq-eqb}
use Rattle.proto_wire.specs.declared.tag.WireType.TheVariants as wire
use Rattle.proto_wire.specs.Spelling.{bytes_field, varint, tag_bytes}
use Rattle.proto_wire.specs.Fields.{Bytes, Rest}
use Rattle.proto_wire.specs.WireReading.{Walk, walk_on, walk_from}
use Rattle.proto_wire.specs.Grammar.{Written, AsVarint, AsBytes, AsFixed32, spelling, written_number, written_body, IsWritable}
use Rattle.proto_wire.proofs.RestReading.{field_at-only, shorter, walk_from-some, walk_from-none}
use Rattle.proto_wire.proofs.WrittenReading.{field_there, written-starts}
use Rattle.report_show.specs.Reading.{Content, field_content, contents_left, contents_in, number_under, payloads_under, payload_under}

-- what a written field says
abbrev pub told : Written → Content
told field = (written_number field, written_body field)

abbrev pub FitsNumber : Written → Type 0
FitsNumber (AsVarint number value) = value < 2 ^ 64
FitsNumber (AsBytes number bytes) = Unit {0}
FitsNumber (AsFixed32 number value) = value < 2 ^ 32

-- the writer takes it, if its bytes can be counted
pub record IsTold (field : Written) : Type 0 where
  pub named : 1 ≤ written_number field
  pub numbered : written_number field < 2 ^ 29
  pub fits : FitsNumber field

pub bytes-fit : (number : ℕ) (bytes : List ℕ) → length (bytes_field number bytes) < 2 ^ 64 → length bytes < 2 ^ 64
bytes-fit number bytes counted =
    let one = length-append (tag_bytes number wire.Bytes ++ varint (length bytes)) bytes in
    omega (arith, one, counted)

writable : (field : Written) → IsTold field → length (spelling field) < 2 ^ 64 → IsWritable field
writable (AsVarint number value) is counted = record { named = is.named; numbered = is.numbered; fits = is.fits }
writable (AsBytes number bytes) is counted =
    record { named = is.named; numbered = is.numbered; fits = bytes-fit number bytes counted }
writable (AsFixed32 number value) is counted = record { named = is.named; numbered = is.numbered; fits = is.fits }

-- of bytes in two parts, each can be counted
pub fits-first : (xs ys : List ℕ) → length (xs ++ ys) < 2 ^ 64 → length xs < 2 ^ 64
fits-first xs ys counted = let both = length-append xs ys in omega (arith, both, counted)

pub fits-second : (xs ys : List ℕ) → length (xs ++ ys) < 2 ^ 64 → length ys < 2 ^ 64
fits-second xs ys counted = let both = length-append xs ys in omega (arith, both, counted)

-- what was written is what is read
pub contents-left : (fields : List Written) (rest : Rest) → AllByRecursion IsTold fields
    → rest.bytes ≡ flat_map spelling fields → length (flat_map spelling fields) < 2 ^ 64
    → contents_left rest ≡ map told fields
contents-left [] rest all is counted =
    ap (λ (walk : Walk). map field_content walk.fields) (walk_from-none rest (ap length is))
contents-left (field ∷ fields) rest all is counted =
    let parts : flat_map spelling (field ∷ fields) ≡ spelling field ++ flat_map spelling fields =
    flat_map-cons spelling field fields in
    let long : length (spelling field ++ flat_map spelling fields) < 2 ^ 64 =
    subst (λ (l : List ℕ). length l < 2 ^ 64) parts counted in
    let may = writable field all.0 (fits-first (spelling field) (flat_map spelling fields) long) in
    let there = written-starts rest field (flat_map spelling fields) may (is ∙ parts) in
    let new : Rest = record { bytes = flat_map spelling fields; at = there.1; depth = rest.depth } in
    let read = field_at-only rest (field_there rest field there.0) new there.2 in
    let less = shorter rest (field_there rest field there.0) new there.2 in
    let walk = walk_from-some rest (omega (arith, less)) ∙ ap (walk_on walk_from) read in
    let others = contents-left fields new all.1 refl (fits-second (spelling field) (flat_map spelling fields) long) in
    ap (λ (w : Walk). map field_content w.fields) walk ∙ ap (λ (l : List Content). told field ∷ l) others

-- the same of a whole message
pub contents-told : (fields : List Written) (bytes : List ℕ) → AllByRecursion IsTold fields
    → bytes ≡ flat_map spelling fields → length bytes < 2 ^ 64 → contents_in bytes ≡ map told fields
contents-told fields bytes all is counted =
    let whole : Rest = record { bytes = bytes; at = 0; depth = 0 } in
    contents-left fields whole all is (subst (λ (l : List ℕ). length l < 2 ^ 64) is counted)

-- a field for each of these, which holds its message
abbrev pub repeated : {X : Type 0} → ℕ → (X → List ℕ) → List X → List Written
repeated number message [] = []
repeated number message (item ∷ items) = AsBytes number (message item) ∷ repeated number message items

-- a field with a number, where it is above 0
abbrev pub if_above : ℕ → ℕ → List Written
if_above number value = if nat_lt 0 value then AsVarint number value ∷ [] else []

-- what a message says, by what was written
abbrev pub said : List Written → List Content
said fields = map told fields

module _ {X : Type 0} (number : ℕ) (message : X → List ℕ) where
  pub repeated-told : (items : List X) → 1 ≤ number → number < 2 ^ 29
      → AllByRecursion IsTold (repeated number message items)
  repeated-told [] named numbered = tt
  repeated-told (item ∷ items) named numbered =
      (record { named = named; numbered = numbered; fits = tt }, repeated-told items named numbered)

  -- each message of them can be counted
  pub repeated-fit : (items : List X) → length (flat_map spelling (repeated number message items)) < 2 ^ 64
      → AllByRecursion (λ item. length (message item) < 2 ^ 64) items
  repeated-fit [] counted = tt
  repeated-fit (item ∷ items) counted =
      let first : List ℕ = bytes_field number (message item) in
      let others : List ℕ = flat_map spelling (repeated number message items) in
      let parts : flat_map spelling (repeated number message (item ∷ items)) ≡ first ++ others =
      flat_map-cons spelling (AsBytes number (message item)) (repeated number message items) in
      let long : length (first ++ others) < 2 ^ 64 = subst (λ (l : List ℕ). length l < 2 ^ 64) parts counted in
      let fits : length (message item) < 2 ^ 64 = bytes-fit number (message item) (fits-first first others long) in
      (fits, repeated-fit items (fits-second first others long))

  -- found under their number, and under no other
  pub payloads-same : (items : List X) (after : List Written)
      → payloads_under number (said (repeated number message items ++ after))
      ≡ map message items ++ payloads_under number (said after)
  payloads-same [] after = refl
  payloads-same (item ∷ items) after =
      flat_map-cons (payload_under number) (number, Bytes (message item))
      (said (repeated number message items ++ after))
      ∙ rw (eq-eqb number number refl) (ap (λ (l : List (List ℕ)). message item ∷ l) (payloads-same items after))

  pub payloads-other : (other : ℕ) → (number == other) ≡ false → (items : List X) (after : List Written)
      → payloads_under other (said (repeated number message items ++ after)) ≡ payloads_under other (said after)
  payloads-other other apart [] after = refl
  payloads-other other apart (item ∷ items) after =
      flat_map-cons (payload_under other) (number, Bytes (message item)) (said (repeated number message items ++ after))
      ∙ rw apart (payloads-other other apart items after)

  pub number-other : (other : ℕ) → (number == other) ≡ false → (items : List X) (after : List Written)
      → number_under other (said (repeated number message items ++ after)) ≡ number_under other (said after)
  number-other other apart [] after = refl
  number-other other apart (item ∷ items) after = rw apart (number-other other apart items after)
