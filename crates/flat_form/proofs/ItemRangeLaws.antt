-- For `decode_items`: items are read one after the other, and all that spell the bytes begin with those that were read.
use Rattle.std.proofs.Common.{◌≡◌, ℕ, ◌+◌, ◌<◌, List, [], ◌∷◌, ◌++◌, length, get_or, Ok, Err, refl, sym, ap, subst, ◌∙◌, append_assoc, arith}
use Rattle.std.specs.Prelude.{All}
use Rattle.std.proofs.lemmas.List.{length-append, append-nil, append_cancel_left, nil_from_length, get_or-append-add}
use Rattle.std.proofs.lemmas.List.Concat.{flat_map-append}
use Rattle.std.proofs.lemmas.List.Elements.{All-nil, All-push}
use Rattle.flat_form.specs.declared.item.Item.{Item}
use Rattle.flat_form.specs.declared.item.Item.TheVariants.{Num, Dims, Slices, AtomItem, Chunk}
use Rattle.flat_form.specs.declared.flat_error.FlatError.{FlatError}
use Rattle.flat_form.specs.declared.flat_error.FlatError.TheVariants.{Bad, Memory}
use Rattle.sd_base.specs.Reads.{FailsBy}
use Rattle.flat_form.specs.ItemReading.{no_item_of, item_at}
use Rattle.flat_form.specs.ItemSpelling.{spelled_item, spelled_items}
use Rattle.flat_form.specs.ItemRange.{CanBeSpelled, AreRead, ReadsItems}
use Rattle.sd_base.proofs.ReadsLemmas.{ok-same}
use Rattle.sd_base.proofs.NumbersLemmas.{IsBytes}
use Rattle.flat_form.proofs.ItemReadingLaws.{IsItem, item_takes, item_again}

-- the items are the front of the others
pub record IsFrontOf (items others : List Item) : Type 0 where
  pub more : List Item
  pub parts : others ≡ items ++ more

-- what was read of the bytes, and what is left
pub record HasRead (bytes : List ℕ) (items : List Item) (rest : List ℕ) : Type 0 where
  pub each : All IsItem items
  pub parts : bytes ≡ spelled_items items ++ rest
  pub fits : IsBytes rest
  pub only : (others : List Item) → All IsItem others → bytes ≡ spelled_items others → IsFrontOf items others

-- an item that can be spelled and is in range is an item in both ways
pub both : (items : List Item) → CanBeSpelled items → All IsItem items
both items can = λ k d less. (can.0 k d less, can.1 k d less)

-- no item is spelled by no byte
pub long_item : (item : Item) → 0 < length (spelled_item item)
long_item (Num number) = omega arith
long_item (Dims dims) = omega arith
long_item (Slices slices) = omega arith
long_item (AtomItem atom) = omega arith
long_item (Chunk bytes) = omega arith

-- nothing is read yet
pub starts : (bytes : List ℕ) → IsBytes bytes → HasRead bytes [] bytes
starts bytes fits = record {
  each = All-nil IsItem;
  parts = refl;
  fits = fits;
  only =
      λ others each spelled. record { more = others; parts = refl };
}

-- what others have after the items is spelled by the rest
left_of : (bytes : List ℕ) (items : List Item) (rest : List ℕ)
    → HasRead bytes items rest
    → (others : List Item)
    → bytes ≡ spelled_items others
    → (at : IsFrontOf items others)
    → rest ≡ spelled_items at.more
left_of bytes items rest has others spelled at =
    append_cancel_left (spelled_items items) rest (spelled_items at.more)
    (sym has.parts ∙ spelled ∙ ap spelled_items at.parts ∙ flat_map-append spelled_item items at.more)

-- what holds of the whole holds of its end
each_left : (items others more : List Item)
    → others ≡ items ++ more
    → All IsItem others
    → (k : ℕ) (d : Item)
    → k < length more
    → IsItem (get_or more k d)
each_left items others more is each k d less =
    let all : All IsItem (items ++ more) = subst (λ (l : List Item). All IsItem l) is each in
    let sum = length-append items more in
    rw (get_or-append-add items more k d) at (all (length items + k) d (omega arith))

-- the first of what is left, if anything is
record StartsWith (rest : List ℕ) (more : List Item) : Type 0 where
  first : Item
  others : List Item
  is : more ≡ first ∷ others
  read : item_at rest ≡ Ok (first, spelled_items others)

-- what is left, if it is anything, begins with the first of the items that spell it
first_of_rest : (rest : List ℕ) (more : List Item)
    → 0 < length rest
    → rest ≡ spelled_items more
    → ((k : ℕ) (d : Item) → k < length more → IsItem (get_or more k d))
    → StartsWith rest more
first_of_rest rest [] some spelled each = let none : length rest ≡ 0 = ap length spelled in absurd (omega arith)
first_of_rest rest (item ∷ others) some spelled each = record {
  first = item;
  others = others;
  is = refl;
  read = ap item_at spelled ∙ item_again item (spelled_items others) (each 0 item (omega arith));
}

-- one more item adds its spelling
pub spelled_push : (xs : List Item) (x : Item) → spelled_items (xs ++ x ∷ []) ≡ spelled_items xs ++ spelled_item x
spelled_push xs x = flat_map-append spelled_item xs (x ∷ [])
    ∙ ap (λ (l : List ℕ). spelled_items xs ++ l) (append-nil (spelled_item x))

-- one more item is read
pub goes_on : (bytes : List ℕ) (items : List Item) (rest : List ℕ) (item : Item) (after : List ℕ)
    → HasRead bytes items rest
    → 0 < length rest
    → item_at rest ≡ Ok (item, after)
    → HasRead bytes (items ++ item ∷ []) after
goes_on bytes items rest item after has some read =
    let took = item_takes rest (item, after) has.fits read in
    record {
      each = All-push IsItem items item has.each took.1;
      parts = has.parts ∙ ap (λ (l : List ℕ). spelled_items items ++ l) took.0.parts
          ∙ sym (append_assoc (spelled_items items) (spelled_item item) after)
          ∙ ap (λ (l : List ℕ). l ++ after) (sym (spelled_push items item));
      fits = took.0.fits;
      only = λ others each spelled.
          let at = has.only others each spelled in
          let start = first_of_rest rest at.more some (left_of bytes items rest has others spelled at)
          (each_left items others at.more at.parts each) in
          let same : start.first ≡ item = ap (λ (z : Item × List ℕ). z.0)
          (ok-same (start.first, spelled_items start.others) (item, after) (sym start.read ∙ read)) in
          record {
            more = start.others;
            parts = at.parts ∙ ap (λ (l : List Item). items ++ l) start.is
                ∙ ap (λ (i : Item). items ++ (i ∷ start.others)) same
                ∙ sym (append_assoc items (item ∷ []) start.others);
          };
    }

-- the next item has a fault
pub fails : (bytes : List ℕ) (items : List Item) (rest : List ℕ)
    → HasRead bytes items rest
    → 0 < length rest
    → (e : FlatError)
    → FailsBy (no_item_of e) (item_at rest)
    → ReadsItems bytes (Err e)
fails bytes items rest has some Bad failed = λ others can spelled.
    let at = has.only others (both others can) spelled in
    let start = first_of_rest rest at.more some (left_of bytes items rest has others spelled at)
    (each_left items others at.more at.parts (both others can)) in
    let clash = sym start.read ∙ failed in absurd cc
fails bytes items rest has some Memory failed = tt

-- no bytes spell no items alone
nothing_more : (more : List Item) → [] ≡ spelled_items more → more ≡ []
nothing_more [] none = refl
nothing_more (item ∷ others) none =
    let some = long_item item in
    let sum : 0 ≡ length (spelled_item item) + length (spelled_items others) = ap length none
    ∙ length-append (spelled_item item) (spelled_items others) in
    absurd (omega arith)

-- all bytes are read
pub is_done : (bytes : List ℕ) (items : List Item) (rest : List ℕ)
    → HasRead bytes items rest
    → length rest ≡ 0
    → AreRead bytes items
is_done bytes items rest has none =
    let nothing : rest ≡ [] = nil_from_length rest none in
    record {
      can_be = (λ k d less. (has.each k d less).0, λ k d less. (has.each k d less).1);
      spelled = has.parts ∙ ap (λ (l : List ℕ). spelled_items items ++ l) nothing ∙ append-nil (spelled_items items);
      only = λ others can spelled.
          let at = has.only others (both others can) spelled in
          let no_more : at.more ≡ [] = nothing_more at.more (sym nothing
          ∙ left_of bytes items rest has others spelled at) in
          at.parts ∙ ap (λ (l : List Item). items ++ l) no_more ∙ append-nil items;
    }

-- reading an item leaves fewer bytes
pub shortens : (rest : List ℕ) (item : Item) (after : List ℕ)
    → IsBytes rest
    → item_at rest ≡ Ok (item, after)
    → length after < length rest
shortens rest item after fits read =
    let took = item_takes rest (item, after) fits read in
    let sum : length rest ≡ length (spelled_item item) + length after = ap length took.0.parts
    ∙ length-append (spelled_item item) after in
    let some = long_item item in
    omega arith
