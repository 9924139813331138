-- For the builds of this crate, and for those of types with a flat form of their own.
use Rattle.std.proofs.Common.{◌≡◌, ℕ, zero, suc, ◌+◌, ◌<◌, List, [], ◌∷◌, ◌++◌, length, drop, All, Option, Some, None, Result, Ok, Err, refl, sym, ap, subst, ◌∙◌, append_assoc, arith}
use Rattle.std.specs.Prelude.{slice_get}
use Rattle.std.specs.Option.{option_to_list}
use Rattle.std.specs.List.{flat_map}
use Rattle.std.proofs.lemmas.List.{drop-drop, drop_at, append-nil, length-append, length_push, nil_from_length}
use Rattle.std.proofs.lemmas.List.Concat.{flat_map-append}
use Rattle.std.proofs.lemmas.List.Elements.{All-nil, All-cons, All-push, All-head, All-tail}
use Rattle.atom_record.specs.declared.value.Leaf.{Leaf}
use Rattle.atom_record.specs.declared.value.Slice.{Slice}
use Rattle.atom_record.specs.declared.value.MetricKey.{MetricKey}
use Rattle.flat_form.specs.declared.item.Item.{Item}
use Rattle.flat_form.specs.declared.item.Item.TheVariants.{Dims, Slices}
use Rattle.flat_form.specs.declared.flat_error.FlatError.{FlatError}
use Rattle.flat_form.specs.declared.flat_error.FlatError.TheVariants.{Bad, Memory}
use Rattle.flat_form.specs.Flat.{Anything, IsValidPair, StandsAt, IsBuilt, Builds, Holds, AreBuilt, BuildsAll, number_items, pair_items, key_items, list_items, option_items, IsMissingOr}

-- where two parts stand, the first does
pub StandsAt-front : (items : List Item) (place : ℕ) (x y : List Item)
    → StandsAt items place (x ++ y)
    → StandsAt items place x
StandsAt-front items place x y whole = record {
  after = y ++ whole.after;
  here = whole.here
      ∙ append_assoc x y whole.after;
}

-- where two parts stand, the second stands after the first
pub StandsAt-back : (items : List Item) (place : ℕ) (x y : List Item)
    → StandsAt items place (x ++ y)
    → StandsAt items (place + length x) y
StandsAt-back items place x y whole = record {
  after = whole.after;
  here = sym (drop-drop (length x) place items) ∙ ap (drop (length x)) (whole.here ∙ append_assoc x y whole.after)
      ∙ drop_at x (y ++ whole.after) (length x) refl;
}

-- two parts of which the second stands after the first stand there together
pub StandsAt-join : (items : List Item) (place : ℕ) (x y : List Item)
    → StandsAt items place x
    → StandsAt items (place + length x) y
    → StandsAt items place (x ++ y)
StandsAt-join items place x y front back =
    let rest : front.after ≡ y ++ back.after = sym (drop_at x front.after (length x) refl)
    ∙ ap (drop (length x)) (sym front.here) ∙ drop-drop (length x) place items ∙ back.here in
    record {
      after = back.after;
      here = front.here ∙ ap (λ (l : List Item). x ++ l) rest
          ∙ sym (append_assoc x y back.after);
    }

-- no items stand everywhere
pub StandsAt-nothing : (items : List Item) (place : ℕ) → StandsAt items place []
StandsAt-nothing items place = record { after = drop place items; here = refl }

-- the item at a place stands there
pub item_here : (items : List Item) (place : ℕ) (item : Item)
    → slice_get items place ≡ Some item
    → StandsAt items place (item ∷ [])
item_here [] place item found = absurd cc
item_here (x ∷ xs) zero item found = record {
  after = xs;
  here = let same : x ≡ item = cc in
      ap (λ (y : Item). y ∷ xs) same;
}
item_here (x ∷ xs) (suc place) item found = let rest = item_here xs place item found in
    record { after = rest.after; here = rest.here }

-- an item that stands at a place is the item there
pub item_is : (items : List Item) (place : ℕ) (item : Item)
    → StandsAt items place (item ∷ [])
    → slice_get items place ≡ Some item
item_is [] zero item stands = let never = stands.here in absurd cc
item_is [] (suc place) item stands = let never = stands.here in absurd cc
item_is (x ∷ xs) zero item stands = let front = stands.here in cc
item_is (x ∷ xs) (suc place) item stands = item_is xs place item (record { after = stands.after; here = stands.here })

module _ {X : Type 0} (wrap : X → Item) (items : List Item) (place : ℕ) where
  -- the value of the item that stands there
  pub one_built : ((x y : X) → wrap x ≡ wrap y → x ≡ y)
      → (item : Item) (value : X) (next : ℕ)
      → slice_get items place ≡ Some item
      → next ≡ place + 1
      → item ≡ wrap value
      → IsBuilt Anything (λ x. wrap x ∷ []) items place value next
  one_built distinct item value next found is_next is = record {
    is_valid = tt;
    stands = item_here items place (wrap value) (found ∙ ap (λ (i : Item). Some i) is);
    ends = is_next;
    only = λ other valid there. distinct other value
        (let same = item_is items place (wrap other) there in let wrapped : wrap other ≡ wrap value = cc in wrapped);
  }

  -- no item stands there
  pub past_end : slice_get items place ≡ None
      → (value : X)
      → Anything value
      → ¬ (StandsAt items place (wrap value ∷ []))
  past_end none value valid there = let some = item_is items place (wrap value) there in cc

  -- an item of another kind stands there
  pub other_kind : (item : Item)
      → slice_get items place ≡ Some item
      → ((value : X) → ¬ (item ≡ wrap value))
      → (value : X)
      → Anything value
      → ¬ (StandsAt items place (wrap value ∷ []))
  other_kind item found never value valid there =
      never value (let same = item_is items place (wrap value) there in let is : item ≡ wrap value = cc in is)

-- pairs of the same parts are the same
same_pair : {X Y : Type 0} (pair : X × Y) (x : X) (y : Y) → pair.0 ≡ x → pair.1 ≡ y → pair ≡ (x, y)
same_pair pair x y first second = ap (λ z. (z, pair.1)) first ∙ ap (λ w. (x, w)) second

module _ {X Y : Type 0} (one_valid : X → Type 0) (other_valid : Y → Type 0) (first : X → List Item)
    (second : Y → List Item) (items : List Item) (place : ℕ) where
  -- a pair, built from its parts
  pub pair_built : (x : X) (y : Y) (middle next : ℕ)
      → IsBuilt one_valid first items place x middle
      → IsBuilt other_valid second items middle y next
      → IsBuilt (IsValidPair one_valid other_valid) (pair_items first second) items place (x, y) next
  pair_built x y middle next one other = record {
    is_valid = (one.is_valid, other.is_valid);
    stands = StandsAt-join items place (first x) (second y) one.stands (rw (← one.ends) other.stands);
    ends = let sum = length-append (first x) (second y) in let start = one.ends in let end = other.ends in omega arith;
    only = λ pair valid there.
        let same : pair.0 ≡ x = one.only pair.0 valid.0 (StandsAt-front items place (first pair.0)
        (second pair.1) there) in
        let start : place + length (first pair.0) ≡ middle = ap (λ (z : X). place + length (first z)) same
        ∙ sym one.ends in
        let later : StandsAt items middle (second pair.1) =
        subst (λ (p : ℕ). StandsAt items p (second pair.1)) start
        (StandsAt-back items place (first pair.0) (second pair.1) there) in
        same_pair pair x y same (other.only pair.1 valid.1 later);
  }

  -- no first part
  pub no_first : ((x : X) → one_valid x → ¬ (StandsAt items place (first x)))
      → (pair : X × Y)
      → IsValidPair one_valid other_valid pair
      → ¬ (StandsAt items place (pair_items first second pair))
  no_first never pair valid there = never pair.0 valid.0 (StandsAt-front items place (first pair.0)
      (second pair.1) there)

  -- no second part after the first
  pub no_second : (x : X) (middle : ℕ)
      → IsBuilt one_valid first items place x middle
      → ((y : Y) → other_valid y → ¬ (StandsAt items middle (second y)))
      → (pair : X × Y)
      → IsValidPair one_valid other_valid pair
      → ¬ (StandsAt items place (pair_items first second pair))
  no_second x middle one never pair valid there =
      let same : pair.0 ≡ x = one.only pair.0 valid.0 (StandsAt-front items place (first pair.0)
      (second pair.1) there) in
      let start : place + length (first pair.0) ≡ middle = ap (λ (z : X). place + length (first z)) same
      ∙ sym one.ends in
      never pair.1 valid.1 (subst (λ (p : ℕ). StandsAt items p (second pair.1)) start
      (StandsAt-back items place (first pair.0) (second pair.1) there))

  -- the first part has a fault
  pub first_fails : (e : FlatError)
      → Builds one_valid first items place (Err e)
      → Builds (IsValidPair one_valid other_valid) (pair_items first second) items place (Err e)
  first_fails Bad never = no_first never
  first_fails Memory none = tt

  -- the second part has a fault
  pub second_fails : (x : X) (middle : ℕ)
      → IsBuilt one_valid first items place x middle
      → (e : FlatError)
      → Builds other_valid second items middle (Err e)
      → Builds (IsValidPair one_valid other_valid) (pair_items first second) items place (Err e)
  second_fails x middle one Bad never = no_second x middle one never
  second_fails x middle one Memory none = tt

-- an item that holds no such value
pub one_fails : {X : Type 0} (wrap : X → Item) (items : List Item) (place : ℕ) (item : Item)
    → slice_get items place ≡ Some item
    → (e : FlatError)
    → Holds wrap item (Err e)
    → Builds Anything (λ x. wrap x ∷ []) items place (Err e)
one_fails wrap items place item found Bad never = other_kind wrap items place item found never
one_fails wrap items place item found Memory none = tt

-- no item was read, since none stands there, or for want of memory
pub unread : {X : Type 0} (wrap : X → Item) (items : List Item) (place : ℕ) (e : FlatError)
    → (e ≡ Bad → slice_get items place ≡ None)
    → Builds Anything (λ x. wrap x ∷ []) items place (Err e)
unread wrap items place Bad none = past_end wrap items place (none refl)
unread wrap items place Memory none = tt

-- a value that is saved as another is: it is built from the other where that is the form of a valid one
module _ {X Y : Type 0} (inner_valid : X → Type 0) (inner : X → List Item) (outer_valid : Y → Type 0)
    (outer : Y → List Item) (form : Y → X)
    (as_form : (y : Y) → outer y ≡ inner (form y)) (form_valid : (y : Y) → outer_valid y → inner_valid (form y))
    (items : List Item) (place : ℕ) where
  -- a value, built from its form, where no other valid one has this form
  pub form_built : (x : X) (next : ℕ)
      → IsBuilt inner_valid inner items place x next
      → (y : Y)
      → outer_valid y
      → form y ≡ x
      → ((z : Y) → outer_valid z → form z ≡ x → z ≡ y)
      → IsBuilt outer_valid outer items place y next
  form_built x next one y valid is alone = record {
    is_valid = valid;
    stands = subst (StandsAt items place) (ap inner (sym is) ∙ sym (as_form y)) one.stands;
    ends = one.ends ∙ ap (λ (l : List Item). place + length l) (ap inner (sym is) ∙ sym (as_form y));
    only = λ other ok there. alone other ok
        (one.only (form other) (form_valid other ok) (subst (StandsAt items place) (as_form other) there));
  }

  -- no form stands there
  pub form_fails : (e : FlatError)
      → Builds inner_valid inner items place (Err e)
      → Builds outer_valid outer items place (Err e)
  form_fails Bad never = λ y valid there. never (form y) (form_valid y valid)
      (subst (StandsAt items place) (as_form y) there)
  form_fails Memory none = tt

-- the one item of dimensions
abbrev dims_item : List Leaf → List Item
dims_item dims = Dims dims ∷ []

-- the one item of slices
abbrev slices_item : List Slice → List Item
slices_item slices = Slices slices ∷ []

-- a key by its parts
abbrev key_of : List Leaf × List Slice → MetricKey
key_of parts = record { dims = parts.0; slices = parts.1 }

-- a key, built from its parts
pub key_built : (items : List Item) (place middle next : ℕ) (dims : List Leaf) (slices : List Slice)
    → IsBuilt Anything (λ x. Dims x ∷ []) items place dims middle
    → IsBuilt Anything (λ x. Slices x ∷ []) items middle slices next
    → IsBuilt Anything key_items items place (record { dims = dims; slices = slices }) next
key_built items place middle next dims slices one other =
    let pair = pair_built Anything Anything dims_item slices_item items place dims slices middle next one other in
    record {
      is_valid = tt;
      stands = pair.stands;
      ends = pair.ends;
      only = λ key valid there. ap key_of (pair.only (key.dims, key.slices) (tt, tt) there);
    }

-- where no dimensions stand, no key does
pub key_dims_fails : (items : List Item) (place : ℕ) (e : FlatError)
    → Builds Anything (λ x. Dims x ∷ []) items place (Err e)
    → Builds Anything key_items items place (Err e)
key_dims_fails items place Bad never = λ key valid there. no_first Anything Anything dims_item slices_item items
    place never (key.dims, key.slices) (tt, tt) there
key_dims_fails items place Memory none = tt

-- where no slices stand after the dimensions, no key stands
pub key_slices_fails : (items : List Item) (place middle : ℕ) (dims : List Leaf)
    → IsBuilt Anything (λ x. Dims x ∷ []) items place dims middle
    → (e : FlatError)
    → Builds Anything (λ x. Slices x ∷ []) items middle (Err e)
    → Builds Anything key_items items place (Err e)
key_slices_fails items place middle dims one Bad never =
    λ key valid there. no_second Anything Anything dims_item slices_item items place dims middle one never
    (key.dims, key.slices) (tt, tt) there
key_slices_fails items place middle dims one Memory none = tt

-- a list with an element at this place
pub record IsSplit {X : Type 0} (xs : List X) (n : ℕ) : Type 0 where
  pub front : List X
  pub here : X
  pub back : List X
  pub parts : xs ≡ front ++ (here ∷ back)
  pub counted : length front ≡ n

-- a list that is longer than so many has a front, an element and a back
pub split : {X : Type 0} (xs : List X) (n : ℕ) → n < length xs → IsSplit xs n
split [] n less = absurd (omega arith)
split (x ∷ xs) zero less = record { front = []; here = x; back = xs; parts = refl; counted = refl }
split (x ∷ xs) (suc n) less =
    let rest = split xs n (omega arith) in
    record {
      front = x ∷ rest.front;
      here = rest.here;
      back = rest.back;
      parts =
          ap (λ l. x ∷ l) rest.parts;
      counted = let count = rest.counted in omega arith;
    }

-- all of a list are all of its front, its element and its back
All-front : {X : Type 0} (P : X → Type 0) (xs ys : List X) → All P (xs ++ ys) → All P xs
All-front P [] ys all = All-nil P
All-front P (x ∷ xs) ys all = All-cons P x xs (All-head P x (xs ++ ys) all)
    (All-front P xs ys (All-tail P x (xs ++ ys) all))

-- all of a list are all of its back
All-back : {X : Type 0} (P : X → Type 0) (xs ys : List X) → All P (xs ++ ys) → All P ys
All-back P [] ys all = all
All-back P (x ∷ xs) ys all = All-back P xs ys (All-tail P x (xs ++ ys) all)

module _ {X : Type 0} (valid : X → Type 0) (flat : X → List Item) (items : List Item) (place : ℕ) where
  -- nothing is built yet
  pub are_none : AreBuilt valid flat items place 0 [] place
  are_none = record {
    are_valid = All-nil valid;
    counted = refl;
    stand = StandsAt-nothing items place;
    ends =
        omega arith;
    only = λ others all none there. nil_from_length others none;
  }

  -- the elements before one of a list that stands there are those that were built, and its own items stand after them
  pub next_stands : (n : ℕ) (values : List X) (next : ℕ)
      → AreBuilt valid flat items place n values next
      → (others : List X)
      → All valid others
      → (at : IsSplit others n)
      → StandsAt items place (flat_map flat others)
      → (at.front ≡ values) × (valid at.here × StandsAt items next (flat at.here))
  next_stands n values next are others all at there =
      let parts : All valid (at.front ++ (at.here ∷ at.back)) = subst (All valid) at.parts all in
      let whole : StandsAt items place (flat_map flat at.front ++ (flat at.here ++ flat_map flat at.back)) =
      subst (λ l. StandsAt items place l) (ap (flat_map flat) at.parts
      ∙ flat_map-append flat at.front (at.here ∷ at.back)) there in
      let same : at.front ≡ values = are.only at.front (All-front valid at.front
      (at.here ∷ at.back) parts) at.counted (StandsAt-front items place (flat_map flat at.front)
      (flat at.here ++ flat_map flat at.back) whole) in
      let start : place + length (flat_map flat at.front) ≡ next =
      ap (λ (l : List X). place + length (flat_map flat l)) same ∙ sym are.ends in
      let later : StandsAt items next (flat at.here ++ flat_map flat at.back) =
      subst (λ (p : ℕ). StandsAt items p (flat at.here ++ flat_map flat at.back)) start
      (StandsAt-back items place (flat_map flat at.front) (flat at.here ++ flat_map flat at.back) whole) in (
        same,
        (
          All-head valid at.here at.back (All-back valid at.front
              (at.here ∷ at.back) parts),
          StandsAt-front items next (flat at.here) (flat_map flat at.back) later,
        ),
      )

  -- one more element adds its items
  flat_push : (values : List X) (value : X) → flat_map flat (values ++ value ∷ []) ≡ flat_map flat values ++ flat value
  flat_push values value = flat_map-append flat values (value ∷ [])
      ∙ ap (λ l. flat_map flat values ++ l) (append-nil (flat value))

  -- one more is built
  pub are_more : (n : ℕ) (values : List X) (next : ℕ) (value : X) (after : ℕ)
      → AreBuilt valid flat items place n values next
      → IsBuilt valid flat items next value after
      → AreBuilt valid flat items place (n + 1) (values ++ value ∷ []) after
  are_more n values next value after are one = record {
    are_valid = All-push valid values value are.are_valid one.is_valid;
    counted = let size = length_push values value in let count = are.counted in omega arith;
    stand = rw flat_push (StandsAt-join items place (flat_map flat values) (flat value) are.stand
        (rw (← are.ends) one.stands));
    ends =
        let start = are.ends in let end = one.ends in
        let size : length (flat_map flat (values ++ value ∷ [])) ≡ length (flat_map flat values) + length
        (flat value) = ap length (flat_push values value) ∙ length-append (flat_map flat values) (flat value) in
        omega arith;
    only = λ others all count there.
        let at = split others n (omega arith) in
        let is = next_stands n values next are others all at there in
        let sum : length others ≡ length at.front + suc (length at.back) = ap length at.parts
        ∙ length-append at.front (at.here ∷ at.back) in
        let front_count = at.counted in
        let none : at.back ≡ [] = nil_from_length at.back (omega arith) in
        let same : at.here ≡ value = one.only at.here is.1.0 is.1.1 in
        at.parts ∙ ap (λ l. l ++ (at.here ∷ at.back)) is.0 ∙ ap (λ l. values ++ (at.here ∷ l)) none
        ∙ ap (λ x. values ++ (x ∷ [])) same;
  }

  -- in a longer list that stands there, the next one after those that were built is this
  pub next_is : (n : ℕ) (values : List X) (next : ℕ) (value : X) (after : ℕ)
      → AreBuilt valid flat items place n values next
      → IsBuilt valid flat items next value after
      → (others : List X)
      → All valid others
      → (at : IsSplit others n)
      → StandsAt items place (flat_map flat others)
      → others ≡ values ++ (value ∷ at.back)
  next_is n values next value after are one others all at there =
      let is = next_stands n values next are others all at there in
      let same : at.here ≡ value = one.only at.here is.1.0 is.1.1 in
      at.parts ∙ ap (λ l. l ++ (at.here ∷ at.back)) is.0 ∙ ap (λ x. values ++ (x ∷ at.back)) same

  -- the next has a fault
  pub next_fails : (n count : ℕ) (values : List X) (next : ℕ)
      → AreBuilt valid flat items place n values next
      → n < count
      → (e : FlatError)
      → Builds valid flat items next (Err e)
      → BuildsAll valid flat items place count (Err e)
  next_fails n count values next are less Bad never = λ others all counted there.
      let at = split others n (omega arith) in
      let is = next_stands n values next are others all at there in
      never at.here is.1.0 is.1.1
  next_fails n count values next are less Memory none = tt

  -- a list after its number
  pub list_built : (count middle : ℕ)
      → IsBuilt Anything number_items items place count middle
      → (built : Result (List X × ℕ) FlatError)
      → BuildsAll valid flat items middle count built
      → Builds (All valid) (list_items flat) items place built
  list_built count middle one (Ok built) are = record {
    is_valid = are.are_valid;
    stands = StandsAt-join items place (number_items (length built.0)) (flat_map flat built.0)
        (rw are.counted one.stands) (rw (← one.ends) are.stand);
    ends = let start = one.ends in let end = are.ends in omega arith;
    only = λ others all there.
        let counted : length others ≡ count =
        one.only (length others) tt (StandsAt-front items place (number_items (length others))
        (flat_map flat others) there) in
        let back : StandsAt items middle (flat_map flat others) =
        subst (λ (p : ℕ). StandsAt items p (flat_map flat others)) (sym one.ends)
        (StandsAt-back items place (number_items (length others)) (flat_map flat others) there) in
        are.only others all counted back;
  }
  list_built count middle one (Err Bad) never = λ others all there.
      let counted : length others ≡ count = one.only (length others) tt
      (StandsAt-front items place (number_items (length others)) (flat_map flat others) there) in
      let back : StandsAt items middle (flat_map flat others) =
      subst (λ (p : ℕ). StandsAt items p (flat_map flat others)) (sym one.ends)
      (StandsAt-back items place (number_items (length others)) (flat_map flat others) there) in
      never others all counted back
  list_built count middle one (Err Memory) none = tt

  -- no number stands there
  pub count_fails : (e : FlatError)
      → Builds Anything number_items items place (Err e)
      → Builds (All valid) (list_items flat) items place (Err e)
  count_fails Bad never = λ others all there. never (length others) tt
      (StandsAt-front items place (number_items (length others)) (flat_map flat others) there)
  count_fails Memory none = tt

-- the one of a list that is one or none
same_option : {X : Type 0} (x y : Option X) → option_to_list x ≡ option_to_list y → x ≡ y
same_option None None same = refl
same_option None (Some y) same = absurd cc
same_option (Some x) None same = absurd cc
same_option (Some x) (Some y) same = let one : x ≡ y = cc in ap (λ (z : _). Some z) one

module _ {X : Type 0} (valid : X → Type 0) (flat : X → List Item) (items : List Item) (place count middle : ℕ)
    (one : IsBuilt Anything number_items items place count middle) where
  -- a value that may be missing, built as a list of one or none
  option_built : (value : Option X) (next : ℕ)
      → AreBuilt valid flat items middle count (option_to_list value) next
      → IsBuilt (IsMissingOr valid) (option_items flat) items place value next
  option_built value next are =
      let list = list_built valid flat items place count middle one (Ok (option_to_list value, next)) are in
      form_built (All valid) (list_items flat) (IsMissingOr valid) (option_items flat) option_to_list (λ y. refl)
      (λ y ok. ok) items place (option_to_list value) next list value list.is_valid refl
      (λ z ok same. same_option z value same)

  -- one is there
  pub found_built : count ≡ 1
      → (value : X) (next : ℕ)
      → IsBuilt valid flat items middle value next
      → IsBuilt (IsMissingOr valid) (option_items flat) items place (Some value) next
  found_built is value next there = option_built (Some value) next
      (rw is (are_more valid flat items middle 0 [] middle value next (are_none valid flat items middle) there))

  -- the one that is said to be there has a fault
  pub found_fails : count ≡ 1
      → (e : FlatError)
      → Builds valid flat items middle (Err e)
      → Builds (IsMissingOr valid) (option_items flat) items place (Err e)
  found_fails is e fails =
      let never = next_fails valid flat items middle 0 count [] middle (are_none valid flat items middle)
      (omega (arith, is)) e fails in
      form_fails (All valid) (list_items flat) (IsMissingOr valid) (option_items flat) option_to_list (λ y. refl)
      (λ y ok. ok) items place e (list_built valid flat items place count middle one (Err e) never)

-- no number stands there
pub option_fails : {X : Type 0} (valid : X → Type 0) (flat : X → List Item) (items : List Item) (place : ℕ)
    (e : FlatError)
    → Builds Anything number_items items place (Err e)
    → Builds (IsMissingOr valid) (option_items flat) items place (Err e)
option_fails valid flat items place e fails =
    form_fails (All valid) (list_items flat) (IsMissingOr valid) (option_items flat) option_to_list (λ y. refl)
    (λ y ok. ok) items place e (count_fails valid flat items place e fails)
