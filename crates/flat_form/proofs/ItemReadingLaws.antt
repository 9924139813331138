-- For `decode_items`: what is read can be spelled and is spelled so, and what can be spelled is read again.
use Rattle.std.proofs.Common.{◌≡◌, ℕ, zero, suc, ◌^◌, ◌<◌, true, List, [], ◌∷◌, ◌++◌, length, Result, Ok, Err, refl, sym, ap, subst, ◌∙◌, append_assoc, arith, inl, inr}
use Rattle.std.specs.Prelude.{◌==◌, All}
use Rattle.std.specs.Int.{Width, w16, w32, w64, to_le_bytes, cast_signed, cast_unsigned}
use Rattle.std.specs.List.{flat_map}
use Rattle.std.specs.Option.{ok_or}
use Rattle.std.proofs.lemmas.Bool.{eqb-true}
use Rattle.std.proofs.lemmas.Int.{to_z-of_z, of_z-to_z}
use Rattle.std.proofs.lemmas.List.Elements.{All-nil, All-cons}
use Rattle.sd_base.specs.Reads.{◌>>=◌, many}
use Rattle.sd_base.specs.Numbers.{front_bytes, front_number}
use Rattle.sd_base.proofs.ReadsLemmas.{bind-ok, choice-side, ok_or-ok, ok-same}
use Rattle.sd_base.proofs.NumbersLemmas.{IsBytes, IsBytes-rest, Takes, Takes-then, Takes-byte, IsWide, wide16, wide32, wide64, front_bytes-takes, front_bytes-again, front_number-takes, front_number-again}
use Rattle.atom_record.specs.declared.value.Value.{Value}
use Rattle.atom_record.specs.declared.value.Leaf.{Leaf}
use Rattle.atom_record.specs.declared.value.Leaf.TheVariants.{Missing, One, Many}
use Rattle.atom_record.specs.declared.value.Slice.{Slice}
use Rattle.atom_record.specs.declared.value.Slice.TheVariants.{Plain, Group}
use Rattle.atom_record.specs.AtomReading.{atom_at}
use Rattle.atom_record.specs.AtomSpelling.{sized_bytes, payload_of}
use Rattle.atom_record.specs.TypedValue.{typed_bytes, typed_at}
use Rattle.atom_record.specs.AtomSound.{IsInRange}
use Rattle.atom_record.proofs.AtomReadingValues.{signed32, signed64, unsigned32, unsigned64}
use Rattle.atom_record.proofs.TypedLaws.{typed_takes, typed_again, short_value}
use Rattle.atom_record.proofs.AtomReadingPayloads.{atom_takes, atom_again}
use Rattle.flat_form.specs.declared.item.Item.{Item}
use Rattle.flat_form.specs.declared.item.Item.TheVariants.{Num, Dims, Slices, AtomItem, Chunk}
use Rattle.flat_form.specs.ItemReading.{NoItem, Unspelled, without_reason, item_uint_at, counted_at, value_in, values_at, leaf_at, slice_at, slices_at, dims_at, item_at}
use Rattle.flat_form.specs.ItemSpelling.{spelled_leaf, spelled_slice, spelled_item}
use Rattle.flat_form.specs.Savable.{IsShortLeaf, IsSavable}
use Rattle.flat_form.specs.ItemRange.{IsLeafInRange, IsSliceInRange, IsItemInRange}

-- a byte in front that is this tag
tagged : (tag number : ℕ) (bytes text rest : List ℕ)
    → (tag == number) ≡ true
    → Takes bytes text rest
    → Takes (tag ∷ bytes) (number ∷ text) rest
tagged tag number bytes text rest is took = rw (eqb-true tag number is) (Takes-byte number bytes text rest took)

-- a number that was read is spelled so
uint_takes : (width : Width) (limit : ℕ) (wide : IsWide width limit) (bytes : List ℕ) (x : ℕ × List ℕ)
    → IsBytes bytes
    → item_uint_at width bytes ≡ Ok x
    → Takes bytes (to_le_bytes width x.0) x.1 × (x.0 < limit)
uint_takes width limit wide bytes x fits read =
    front_number-takes width limit wide bytes x fits (ok_or-ok (front_number width bytes) Unspelled x read)

-- and one that is spelled is read again
uint_again : (width : Width) (limit : ℕ) (wide : IsWide width limit) (n : ℕ) (rest : List ℕ)
    → n < limit
    → item_uint_at width (to_le_bytes width n ++ rest) ≡ Ok (n, rest)
uint_again width limit wide n rest below =
    ap (λ found. ok_or found Unspelled) (front_number-again width limit wide n rest below)

module _ {X : Type 0} (at : List ℕ → Result (X × List ℕ) NoItem) (text : X → List ℕ) (Sound : X → Type 0) where
  -- so many that were read are spelled so, each is sound, and there are so many
  pub many_takes :
      ((bytes : List ℕ) (x : X × List ℕ) → IsBytes bytes → at bytes ≡ Ok x → Takes bytes (text x.0) x.1 × Sound x.0)
      → (n : ℕ) (bytes : List ℕ) (x : List X × List ℕ)
      → IsBytes bytes
      → many at n bytes ≡ Ok x
      → Takes bytes (flat_map text x.0) x.1 × All Sound x.0 × (length x.0 ≡ n)
  unfolding many
  many_takes each zero bytes x fits read =
      let is_read : List X × List ℕ → Type 0 = λ y. Takes bytes (flat_map text y.0) y.1 × All Sound y.0
      × (length y.0 ≡ 0) in
      subst is_read (ok-same ([], bytes) x read) (record { parts = refl; fits = fits }, All-nil Sound, refl)
  many_takes each (suc n) bytes x fits read =
      let first = bind-ok (at bytes) (λ first. many at n first.1 >>= λ others. Ok
      (first.0 ∷ others.0, others.1)) x read in
      let others = bind-ok (many at n first.0.1) (λ others. Ok (first.0.0 ∷ others.0, others.1)) x first.2 in
      let one = each bytes first.0 fits first.1 in
      let more = many_takes each n first.0.1 others.0 one.0.fits others.1 in
      let is_read : List X × List ℕ → Type 0 = λ y. Takes bytes (flat_map text y.0) y.1 × All Sound y.0
      × (length y.0 ≡ suc n) in
      subst is_read (ok-same (first.0.0 ∷ others.0.0, others.0.1) x others.2) (
        Takes-then bytes (text first.0.0) first.0.1
            (flat_map text others.0.0) others.0.1 one.0 more.0,
        All-cons Sound first.0.0 others.0.0 one.1 more.1,
        ap
            suc more.2,
      )

  -- so many that are spelled are read again
  pub many_again : ((x : X) (rest : List ℕ) → Sound x → at (text x ++ rest) ≡ Ok (x, rest))
      → (xs : List X) (rest : List ℕ)
      → All Sound xs
      → many at (length xs) (flat_map text xs ++ rest) ≡ Ok (xs, rest)
  unfolding many
  many_again each [] rest all = refl
  many_again each (x ∷ xs) rest all =
      let first : at (text x ++ flat_map text xs ++ rest) ≡ Ok (x, flat_map text xs ++ rest) =
      rw (append_assoc (text x) (flat_map text xs) rest)
      (each x (flat_map text xs ++ rest) (all 0 x (omega arith))) in
      let others = many_again each xs rest (λ k d less. all (suc k) d (omega arith)) in
      rw (first, others) refl

  -- after a number of two bytes
  pub listed_takes :
      ((bytes : List ℕ) (x : X × List ℕ) → IsBytes bytes → at bytes ≡ Ok x → Takes bytes (text x.0) x.1 × Sound x.0)
      → (bytes : List ℕ) (x : List X × List ℕ)
      → IsBytes bytes
      → (item_uint_at w16 bytes >>= λ count. many at count.0 count.1) ≡ Ok x
      → Takes bytes (to_le_bytes w16 (length x.0) ++ flat_map text x.0) x.1 × All Sound x.0 × (length x.0 < 2 ^ 16)
  listed_takes each bytes x fits read =
      let count = bind-ok (item_uint_at w16 bytes) (λ count. many at count.0 count.1) x read in
      let front = uint_takes w16 (2 ^ 16) wide16 bytes count.0 fits count.1 in
      let all = many_takes each count.0.0 count.0.1 x front.0.fits count.2 in
      let numbered : Takes bytes (to_le_bytes w16 (length x.0)) count.0.1 =
      subst (λ (n : ℕ). Takes bytes (to_le_bytes w16 n) count.0.1) (sym all.2) front.0 in (
        Takes-then bytes (to_le_bytes w16 (length x.0)) count.0.1
            (flat_map text x.0) x.1 numbered all.0,
        all.1,
        let same = all.2 in let below = front.1 in omega arith,
      )

  -- those that are spelled after their number are read again
  pub listed_again : ((x : X) (rest : List ℕ) → Sound x → at (text x ++ rest) ≡ Ok (x, rest))
      → (xs : List X) (rest : List ℕ)
      → length xs < 2 ^ 16
      → All Sound xs
      → (item_uint_at w16 ((to_le_bytes w16 (length xs) ++ flat_map text xs) ++ rest)
      >>= λ count. many at count.0 count.1) ≡ Ok (xs, rest)
  listed_again each xs rest short all =
      let number : item_uint_at w16 ((to_le_bytes w16 (length xs) ++ flat_map text xs) ++ rest) ≡ Ok
      (length xs, flat_map text xs ++ rest) =
      rw (append_assoc (to_le_bytes w16 (length xs)) (flat_map text xs) rest)
      (uint_again w16 (2 ^ 16) wide16 (length xs) (flat_map text xs ++ rest) short) in
      ap (λ r. r >>= λ count. many at count.0 count.1) number ∙ many_again each xs rest all

-- a reading without its reason read something where the reading with it did
kept : {A F : Type 0} (read : Result A F) (x : A) → without_reason read ≡ Ok x → read ≡ Ok x
kept (Ok y) x e = ap (λ z. Ok z) (ok-same y x e)
kept (Err reason) x e = absurd cc

-- a value that was read is spelled so and fits its bytes
value_takes : (bytes : List ℕ) (x : Value × List ℕ)
    → IsBytes bytes
    → value_in bytes ≡ Ok x
    → Takes bytes (typed_bytes x.0) x.1 × IsInRange x.0
value_takes bytes x fits read = typed_takes bytes x fits (kept (typed_at bytes) x read)

-- a value that is spelled is read again
value_again : (value : Value) (rest : List ℕ)
    → IsInRange value
    → value_in (typed_bytes value ++ rest) ≡ Ok (value, rest)
value_again value rest fits = ap without_reason (typed_again value rest fits)

-- values that were read after their number are spelled so
values_takes : (bytes : List ℕ) (x : List Value × List ℕ)
    → IsBytes bytes
    → values_at bytes ≡ Ok x
    → Takes bytes (to_le_bytes w16 (length x.0) ++ flat_map typed_bytes x.0) x.1 × All IsInRange x.0
    × (length x.0 < 2 ^ 16)
unfolding values_at
values_takes bytes x fits read = listed_takes value_in typed_bytes IsInRange value_takes bytes x fits read

-- values that are spelled after their number are read again
values_again : (xs : List Value) (rest : List ℕ)
    → length xs < 2 ^ 16
    → All IsInRange xs
    → values_at ((to_le_bytes w16 (length xs) ++ flat_map typed_bytes xs) ++ rest) ≡ Ok (xs, rest)
unfolding values_at
values_again xs rest short all = listed_again value_in typed_bytes IsInRange value_again xs rest short all

-- the leaf can be spelled, and its values fit their bytes
abbrev IsLeaf : Leaf → Type 0
IsLeaf leaf = IsShortLeaf leaf × IsLeafInRange leaf

-- a leaf that was read is spelled so
leaf_takes : (bytes : List ℕ) (x : Leaf × List ℕ)
    → IsBytes bytes
    → leaf_at bytes ≡ Ok x
    → Takes bytes (spelled_leaf x.0) x.1 × IsLeaf x.0
unfolding leaf_at
leaf_takes [] x fits read = absurd cc
leaf_takes (tag ∷ bytes) x fits read =
    let rest : IsBytes bytes = IsBytes-rest tag bytes fits in
    let is_read : Leaf × List ℕ → Type 0 = λ y. Takes (tag ∷ bytes) (spelled_leaf y.0) y.1 × IsLeaf y.0 in
    elim (choice-side (tag == 0) _ _ (Ok x) read) [
      | inl this ↦ subst is_read (ok-same (Missing, bytes) x this.1)
          (tagged tag 0 bytes [] bytes this.0 (record { parts = refl; fits = rest }), (tt, tt))
      | inr other ↦ elim (choice-side (tag == 1) _ _ (Ok x) other.1) [
        | inl this ↦
            let value = bind-ok (value_in bytes) (λ value. Ok (One value.0, value.1)) x this.1 in
            let took = value_takes bytes value.0 rest value.1 in
            subst is_read (ok-same (One value.0.0, value.0.1) x value.2) (
              tagged tag 1 bytes (typed_bytes value.0.0) value.0.1 this.0 took.0,
              (short_value value.0.0 took.1, took.1),
            )
        | inr third ↦ elim (choice-side (tag == 2) _ _ (Ok x) third.1) [
          | inl this ↦
              let all = bind-ok (values_at bytes) (λ all. Ok (Many all.0, all.1)) x this.1 in
              let took = values_takes bytes all.0 rest all.1 in
              subst is_read (ok-same (Many all.0.0, all.0.1) x all.2) (
                tagged tag 2 bytes (to_le_bytes w16 (length all.0.0) ++ flat_map typed_bytes all.0.0) all.0.1 this.0
                    took.0,
                ((took.2, λ k d less. short_value _ (took.1 k d less)), took.1),
              )
          | inr never ↦ let bad = never.1 in absurd cc
        ]
      ]
    ]

-- a leaf that is spelled is read again
leaf_again : (leaf : Leaf) (rest : List ℕ) → IsLeaf leaf → leaf_at (spelled_leaf leaf ++ rest) ≡ Ok (leaf, rest)
unfolding leaf_at
leaf_again Missing rest is = refl
leaf_again (One value) rest is = rw (value_again value rest is.1) refl
leaf_again (Many all) rest is = rw (values_again all rest is.0.0 is.1) refl

-- an id and a number after it that were read, and the slice that is made of them
record TakesTwo (width : Width) (limit : ℕ) (make : ℕ → ℕ → Slice) (bytes : List ℕ) (slice : Slice) (rest : List ℕ) :
    Type 0 where
  id : ℕ
  number : ℕ
  same : slice ≡ make id number
  took : Takes bytes (to_le_bytes w32 id ++ to_le_bytes width number) rest
  id_fits : id < 2 ^ 32
  fits : number < limit

-- a slice that is made of an id and a number is read with both
two_take : (width : Width) (limit : ℕ) (wide : IsWide width limit) (make : ℕ → ℕ → Slice) (bytes : List ℕ)
    (x : Slice × List ℕ)
    → IsBytes bytes
    → (item_uint_at w32 bytes >>= λ id. item_uint_at width id.1 >>= λ n. Ok (make id.0 n.0, n.1)) ≡ Ok x
    → TakesTwo width limit make bytes x.0 x.1
two_take width limit wide make bytes x fits read =
    let id = bind-ok (item_uint_at w32 bytes) (λ id. item_uint_at width id.1 >>= λ n. Ok (make id.0 n.0, n.1)) x read in
    let number = bind-ok (item_uint_at width id.0.1) (λ n. Ok (make id.0.0 n.0, n.1)) x id.2 in
    let first = uint_takes w32 (2 ^ 32) wide32 bytes id.0 fits id.1 in
    let second = uint_takes width limit wide id.0.1 number.0 first.0.fits number.1 in
    let is_read : Slice × List ℕ → Type 0 = λ y. TakesTwo width limit make bytes y.0 y.1 in
    subst is_read (ok-same (make id.0.0 number.0.0, number.0.1) x number.2) (record {
      id = id.0.0;
      number = number.0.0;
      same = refl;
      took = Takes-then bytes (to_le_bytes w32 id.0.0) id.0.1 (to_le_bytes width number.0.0) number.0.1 first.0
          second.0;
      id_fits = first.1;
      fits = second.1;
    })

-- a slice that was read is spelled so
slice_takes : (bytes : List ℕ) (x : Slice × List ℕ)
    → IsBytes bytes
    → slice_at bytes ≡ Ok x
    → Takes bytes (spelled_slice x.0) x.1 × IsSliceInRange x.0
unfolding slice_at
slice_takes [] x fits read = absurd cc
slice_takes (tag ∷ bytes) x fits read =
    let rest : IsBytes bytes = IsBytes-rest tag bytes fits in
    elim (choice-side (tag == 1) _ _ (Ok x) read) [
      | inl this ↦
          let two = two_take w32 (2 ^ 32) wide32 (λ id n. Plain id (cast_signed w32 n)) bytes x rest this.1 in
          let spelled : Takes bytes (to_le_bytes w32 two.id ++ to_le_bytes w32 (cast_unsigned w32
          (cast_signed w32 two.number))) x.1 = rw (of_z-to_z w32 two.number two.fits) two.took in
          rw two.same (tagged tag 1 bytes _ x.1 this.0 spelled, (two.id_fits, signed32 two.number two.fits))
      | inr other ↦ elim (choice-side (tag == 2) _ _ (Ok x) other.1) [
        | inl this ↦
            let two = two_take w64 (2 ^ 64) wide64 (λ id n. Group id (cast_signed w64 n)) bytes x rest this.1 in
            let spelled : Takes bytes (to_le_bytes w32 two.id ++ to_le_bytes w64 (cast_unsigned w64
            (cast_signed w64 two.number))) x.1 = rw (of_z-to_z w64 two.number two.fits) two.took in
            rw two.same (tagged tag 2 bytes _ x.1 this.0 spelled, (two.id_fits, signed64 two.number two.fits))
        | inr never ↦ let bad = never.1 in absurd cc
      ]
    ]

-- a slice that is spelled is read again
slice_again : (slice : Slice) (rest : List ℕ)
    → IsSliceInRange slice
    → slice_at (spelled_slice slice ++ rest) ≡ Ok (slice, rest)
unfolding slice_at
slice_again (Plain id value) rest is =
    rw (
      uint_again w32 (2 ^ 32) wide32 id (to_le_bytes w32 (cast_unsigned w32 value) ++ rest) is.0,
      uint_again w32 (2 ^ 32) wide32 (cast_unsigned w32 value) rest (unsigned32 value is.1),
      to_z-of_z w32 value is.1,
    ) refl
slice_again (Group id group) rest is =
    rw (
      uint_again w32 (2 ^ 32) wide32 id (to_le_bytes w64 (cast_unsigned w64 group) ++ rest) is.0,
      uint_again w64 (2 ^ 64) wide64 (cast_unsigned w64 group) rest (unsigned64 group is.1),
      to_z-of_z w64 group is.1,
    ) refl

-- slices that were read are spelled so, and are fewer than 256
slices_takes : (bytes : List ℕ) (x : List Slice × List ℕ)
    → IsBytes bytes
    → slices_at bytes ≡ Ok x
    → Takes bytes (length x.0 ∷ flat_map spelled_slice x.0) x.1 × All IsSliceInRange x.0 × (length x.0 < 2 ^ 8)
slices_takes [] x fits read = absurd cc
slices_takes (count ∷ bytes) x fits read =
    let all = many_takes slice_at spelled_slice IsSliceInRange slice_takes count bytes x
    (IsBytes-rest count bytes fits) read in
    let same : count ≡ length x.0 = sym all.2 in
    let below = fits 0 in (
      rw same (Takes-byte (length x.0) bytes (flat_map spelled_slice x.0) x.1 all.0),
      all.1,
      omega arith,
    )

-- slices that are spelled are read again
slices_again : (xs : List Slice) (rest : List ℕ)
    → All IsSliceInRange xs
    → slices_at ((length xs ∷ flat_map spelled_slice xs) ++ rest) ≡ Ok (xs, rest)
slices_again xs rest all = many_again slice_at spelled_slice IsSliceInRange slice_again xs rest all

-- leaves that were read are spelled so, and are fewer than 65,536
dims_takes : (bytes : List ℕ) (x : List Leaf × List ℕ)
    → IsBytes bytes
    → dims_at bytes ≡ Ok x
    → Takes bytes (to_le_bytes w16 (length x.0) ++ flat_map spelled_leaf x.0) x.1 × All IsLeaf x.0
    × (length x.0 < 2 ^ 16)
dims_takes bytes x fits read = listed_takes leaf_at spelled_leaf IsLeaf leaf_takes bytes x fits read

-- leaves that are spelled are read again
dims_again : (xs : List Leaf) (rest : List ℕ)
    → length xs < 2 ^ 16
    → All IsLeaf xs
    → dims_at ((to_le_bytes w16 (length xs) ++ flat_map spelled_leaf xs) ++ rest) ≡ Ok (xs, rest)
dims_again xs rest short all = listed_again leaf_at spelled_leaf IsLeaf leaf_again xs rest short all

-- bytes after their number, of a width that is wide enough
counted_takes : (width : Width) (limit : ℕ) (wide : IsWide width limit) (bytes : List ℕ) (x : List ℕ × List ℕ)
    → IsBytes bytes
    → counted_at width bytes ≡ Ok x
    → Takes bytes (to_le_bytes width (length x.0) ++ x.0) x.1 × (length x.0 < limit) × IsBytes x.0
counted_takes width limit wide bytes x fits read =
    let count = bind-ok (item_uint_at width bytes) (λ count. ok_or (front_bytes count.0 count.1) Unspelled) x read in
    let number = uint_takes width limit wide bytes count.0 fits count.1 in
    let text = front_bytes-takes count.0.0 count.0.1 x number.0.fits
    (ok_or-ok (front_bytes count.0.0 count.0.1) Unspelled x count.2) in
    let both = Takes-then bytes (to_le_bytes width count.0.0) count.0.1 x.0 x.1 number.0 text.0 in (
      subst (λ (n : ℕ). Takes bytes (to_le_bytes width n ++ x.0) x.1) (sym text.1) both,
      omega (arith, number.1, text.1),
      text.2,
    )

-- bytes that are spelled after their number are read again
counted_again : (width : Width) (limit : ℕ) (wide : IsWide width limit) (text rest : List ℕ)
    → length text < limit
    → counted_at width ((to_le_bytes width (length text) ++ text) ++ rest) ≡ Ok (text, rest)
counted_again width limit wide text rest below =
    let then_bytes : Result (ℕ × List ℕ) NoItem → Result (List ℕ × List ℕ) NoItem = λ read.
    read >>= λ count. ok_or (front_bytes count.0 count.1) Unspelled in
    ap (counted_at width) (append_assoc (to_le_bytes width (length text)) text rest)
    ∙ ap then_bytes (uint_again width limit wide (length text) (text ++ rest) below)
    ∙ ap (λ found. ok_or found Unspelled) (front_bytes-again text rest)

-- the item can be spelled, and its numbers fit their bytes
abbrev pub IsItem : Item → Type 0
IsItem item = IsSavable item × IsItemInRange item

-- an item that was read is spelled so and can be spelled
pub item_takes : (bytes : List ℕ) (x : Item × List ℕ)
    → IsBytes bytes
    → item_at bytes ≡ Ok x
    → Takes bytes (spelled_item x.0) x.1 × IsItem x.0
unfolding item_at
item_takes [] x fits read = absurd cc
item_takes (tag ∷ bytes) x fits read =
    let rest : IsBytes bytes = IsBytes-rest tag bytes fits in
    let is_read : Item × List ℕ → Type 0 = λ y. Takes (tag ∷ bytes) (spelled_item y.0) y.1 × IsItem y.0 in
    elim (choice-side (tag == 1) _ _ (Ok x) read) [
      | inl this ↦
          let number = bind-ok (item_uint_at w64 bytes) (λ number. Ok (Num number.0, number.1)) x this.1 in
          let took = uint_takes w64 (2 ^ 64) wide64 bytes number.0 rest number.1 in
          subst is_read (ok-same (Num number.0.0, number.0.1) x number.2)
          (tagged tag 1 bytes (to_le_bytes w64 number.0.0) number.0.1 this.0 took.0, (tt, took.1))
      | inr second ↦ elim (choice-side (tag == 2) _ _ (Ok x) second.1) [
        | inl this ↦
            let dims = bind-ok (dims_at bytes) (λ dims. Ok (Dims dims.0, dims.1)) x this.1 in
            let took = dims_takes bytes dims.0 rest dims.1 in
            subst is_read (ok-same (Dims dims.0.0, dims.0.1) x dims.2) (
              tagged tag 2 bytes (to_le_bytes w16 (length dims.0.0) ++ flat_map spelled_leaf dims.0.0) dims.0.1 this.0
                  took.0,
              ((took.2, λ k d less. (took.1 k d less).0), λ k d less. (took.1 k d less).1),
            )
        | inr third ↦ elim (choice-side (tag == 3) _ _ (Ok x) third.1) [
          | inl this ↦
              let slices = bind-ok (slices_at bytes) (λ slices. Ok (Slices slices.0, slices.1)) x this.1 in
              let took = slices_takes bytes slices.0 rest slices.1 in
              subst is_read (ok-same (Slices slices.0.0, slices.0.1) x slices.2) (
                tagged tag 3 bytes (length slices.0.0 ∷ flat_map spelled_slice slices.0.0) slices.0.1 this.0 took.0,
                (took.2, took.1),
              )
          | inr fourth ↦ elim (choice-side (tag == 4) _ _ (Ok x) fourth.1) [
            | inl this ↦
                let payload = bind-ok (counted_at w16 bytes)
                (λ payload. without_reason (atom_at payload.0) >>= λ atom. Ok
                (AtomItem atom, payload.1)) x this.1 in
                let atom = bind-ok (without_reason (atom_at payload.0.0))
                (λ atom. Ok (AtomItem atom, payload.0.1)) x payload.2 in
                let took = counted_takes w16 (2 ^ 16) wide16 bytes payload.0 rest payload.1 in
                let sound = atom_takes payload.0.0 atom.0 took.2 (kept (atom_at payload.0.0) atom.0 atom.1) in
                let spelled : Takes bytes (sized_bytes (payload_of atom.0)) payload.0.1 =
                subst (λ (t : List ℕ). Takes bytes (sized_bytes t) payload.0.1) sound.1 took.0 in
                subst is_read (ok-same (AtomItem atom.0, payload.0.1) x atom.2)
                (tagged tag 4 bytes (sized_bytes (payload_of atom.0)) payload.0.1 this.0 spelled, (sound.0, tt))
            | inr fifth ↦ elim (choice-side (tag == 5) _ _ (Ok x) fifth.1) [
              | inl this ↦
                  let chunk = bind-ok (counted_at w32 bytes) (λ chunk. Ok (Chunk chunk.0, chunk.1)) x this.1
                  in
                  let took = counted_takes w32 (2 ^ 32) wide32 bytes chunk.0 rest chunk.1 in
                  subst is_read (ok-same (Chunk chunk.0.0, chunk.0.1) x chunk.2) (
                    tagged tag 5 bytes (to_le_bytes w32 (length chunk.0.0) ++ chunk.0.0) chunk.0.1 this.0
                        took.0,
                    (took.1, tt),
                  )
              | inr never ↦ let bad = never.1 in absurd cc
            ]
          ]
        ]
      ]
    ]

-- an item that is spelled is read again
pub item_again : (item : Item) (rest : List ℕ) → IsItem item → item_at (spelled_item item ++ rest) ≡ Ok (item, rest)
unfolding item_at
item_again (Num number) rest is = rw (uint_again w64 (2 ^ 64) wide64 number rest is.1) refl
item_again (Dims dims) rest is = rw (dims_again dims rest is.0.0 (λ k d less. (is.0.1 k d less, is.1 k d less))) refl
item_again (Slices slices) rest is = rw (slices_again slices rest is.1) refl
item_again (AtomItem atom) rest is = let fits = is.0.fits in
    rw (counted_again w16 (2 ^ 16) wide16 (payload_of atom) rest (omega arith), atom_again atom is.0) refl
item_again (Chunk bytes) rest is = rw (counted_again w32 (2 ^ 32) wide32 bytes rest is.0) refl
