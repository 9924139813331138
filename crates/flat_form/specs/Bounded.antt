-- Items have no more bytes than their own and what they hold, and a value has no more items than its head and its
-- entries allow.
use Rattle.std.specs.Prelude.{◌≡◌, ℕ, ℤ, ◌+◌, ◌*◌, ◌≤◌, nat_le, Bool, true, false, if◌then◌else◌, List, [], ◌∷◌, ◌++◌, length, All, Option}
use Rattle.std.specs.Option.{option_to_list}
use Rattle.std.specs.List.{flat_map, sum_by}
use Rattle.std.proofs.Common.{arith, refl}
use Rattle.std.proofs.lemmas.Bool.{leb-true}
use Rattle.std.proofs.lemmas.List.{length-append}
use Rattle.std.proofs.lemmas.List.Concat.{length-flat_map}
use Rattle.std.proofs.lemmas.List.Sums.{sum_by-cons, sum_by-le-sum_by}
use Rattle.atom_record.specs.declared.value.Value.{Value}
use Rattle.atom_record.specs.declared.value.Value.TheVariants as values
use Rattle.atom_record.specs.declared.value.Leaf.{Leaf}
use Rattle.atom_record.specs.declared.value.Leaf.TheVariants.{Missing, One, Many}
use Rattle.atom_record.specs.declared.value.Slice.{Slice}
use Rattle.atom_record.specs.declared.value.Slice.TheVariants.{Plain, Group}
use Rattle.atom_record.specs.declared.value.MetricKey.{MetricKey}
use Rattle.atom_record.specs.declared.atom.Atom.{Atom}
use Rattle.atom_record.specs.declared.atom.AtomField.{AtomField}
use Rattle.flat_form.specs.declared.item.Item.{Item}
use Rattle.flat_form.specs.declared.item.Item.TheVariants.{Num, Dims, Slices, AtomItem, Chunk}
use Rattle.atom_record.specs.AtomSpelling.{value_bytes, entry_bytes}
use Rattle.atom_record.specs.TypedValue.{typed_bytes}
use Rattle.flat_form.specs.ItemSpelling.{spelled_leaf, spelled_slice, spelled_item, spelled_items}
use Rattle.flat_form.specs.Flat.{Anything, IsValidPair, IsSigned, IsLong, IsMissingOr, number_items, signed_items, long_items, option_items, dims_items, key_items, atom_items, pair_items, list_items}
use Rattle.flat_form.specs.Weight.{text_weight, value_weight, leaf_weight, entry_weight, held_weight, held, own_size, own_sizes, most_items, most_bytes, entries_for, most_head, head_within, entries_within, pair_entries, list_entries}

-- pieces, each within its weight
pieces_bounded : {X : Type 0} (bytes : X → List ℕ) (weight : X → ℕ) (xs : List X)
    → ((x : X) → length (bytes x) ≤ weight x) → length (flat_map bytes xs) ≤ sum_by weight xs
pieces_bounded bytes weight xs each =
    let sum = length-flat_map bytes xs in
    let less = sum_by-le-sum_by (λ x. length (bytes x)) weight xs each in
    omega arith

-- what follows the byte of a value has no more than 8 bytes besides its text
content_bounded : (value : Value) → length (value_bytes value) ≤ 8 + text_weight value
content_bounded (values.Int n) = omega arith
content_bounded (values.Long n) = omega arith
content_bounded (values.Bool b) = omega arith
content_bounded (values.Str text) = omega arith
content_bounded (values.Raw bytes) = omega arith
content_bounded (values.Bits32 bits) = omega arith

-- a value within its weight
value_bounded : (value : Value) → length (typed_bytes value) ≤ value_weight value
value_bounded value = let part = content_bounded value in omega arith

-- a leaf within its weight
leaf_bounded : (leaf : Leaf) → length (spelled_leaf leaf) ≤ leaf_weight leaf
leaf_bounded Missing = omega arith
leaf_bounded (One value) = let part = value_bounded value in omega arith
leaf_bounded (Many values) = let part = pieces_bounded typed_bytes value_weight values value_bounded in omega arith

-- a slice within its weight
slice_bounded : (slice : Slice) → length (spelled_slice slice) ≤ 16
slice_bounded (Plain atom_id value) = omega arith
slice_bounded (Group atom_id group) = omega arith

-- an entry of an atom within its weight
entry_bounded : (entry : AtomField) → length (entry_bytes entry) ≤ entry_weight entry
entry_bounded entry = let part = content_bounded entry.value in omega arith

-- sixteen for each
sixteens : {X : Type 0} (xs : List X) → sum_by (λ x. 16) xs ≡ 16 * length xs
sixteens [] = omega arith
sixteens (x ∷ xs) = let rest = sixteens xs in let sum = sum_by-cons (λ x. 16) x xs in omega arith

-- an item has its own bytes, and what it holds at most
pub item_bounded : (item : Item) → length (spelled_item item) ≤ own_size item + held_weight item
item_bounded (Num number) = omega arith
item_bounded (Dims dims) = let part = pieces_bounded spelled_leaf leaf_weight dims leaf_bounded in omega arith
item_bounded (Slices slices) =
    let part = pieces_bounded spelled_slice (λ slice. 16) slices slice_bounded in
    let count = sixteens slices in
    omega arith
item_bounded (AtomItem atom) = let part = pieces_bounded entry_bytes entry_weight atom.fields entry_bounded in
    omega arith
item_bounded (Chunk bytes) = omega arith

-- items have their own bytes, and what they hold at most
pub items_bounded : (items : List Item) → length (spelled_items items) ≤ own_sizes items + held items
items_bounded [] = omega arith
items_bounded (item ∷ items) =
    let first = item_bounded item in
    let others = items_bounded items in
    let own = sum_by-cons own_size item items in
    let sum = sum_by-cons held_weight item items in
    let size = length-append (spelled_item item) (spelled_items items) in
    omega arith

-- no item has more than nine bytes of its own
own_bounded : (item : Item) → own_size item ≤ 9
own_bounded (Num number) = omega arith
own_bounded (Dims dims) = omega arith
own_bounded (Slices slices) = omega arith
own_bounded (AtomItem atom) = omega arith
own_bounded (Chunk bytes) = omega arith

-- nine bytes at most for each item
pub own_sizes-bounded : (items : List Item) → own_sizes items ≤ 9 * length items
own_sizes-bounded [] = omega arith
own_sizes-bounded (item ∷ items) =
    let first = own_bounded item in
    let others = own_sizes-bounded items in
    let own = sum_by-cons own_size item items in
    omega arith

-- a value of so few items: nine bytes for each item of its head, 72 for each entry, and what its items hold
pub bytes_bounded : (items : List Item) (head entries : ℕ) → length items ≤ most_items head entries
    → length (spelled_items items) ≤ most_bytes head entries items
bytes_bounded items head entries few =
    let all = items_bounded items in let own = own_sizes-bounded items in omega arith

-- a number that is told to be no more than a head has
pub short_head : (head : ℕ) → nat_le head most_head ≡ true → head ≤ most_head
short_head head is = leb-true head most_head is

short_by : (heads : ℕ) (fits : Bool) → nat_le heads most_head ≡ fits → (if fits then heads else 0) ≤ most_head
short_by heads true fits = short_head heads fits
short_by heads false fits = omega arith

-- a value of parts has no more items in its head than a head has
pub parts_short : (heads : ℕ) → head_within heads ≤ most_head
parts_short heads = short_by heads (nat_le heads most_head) refl

bounded_by : (heads items entries : ℕ) (fits : Bool) → items ≤ most_items heads entries
    → items ≤ most_items (if fits then heads else 0) (if fits then entries else entries_for items)
bounded_by heads items entries true few = few
bounded_by heads items entries false few = omega arith

-- a value of parts within theirs is within its own head and entries
pub parts_bounded : (heads items entries : ℕ) → items ≤ most_items heads entries
    → items ≤ most_items (head_within heads) (entries_within heads items entries)
parts_bounded heads items entries few = bounded_by heads items entries (nat_le heads most_head) few

few_by : (items entries : ℕ) (fits : Bool) → entries ≤ items → (if fits then entries else entries_for items) ≤ items
few_by items entries true few = few
few_by items entries false few = omega arith

-- a value of parts with no more entries than items has no more of its own
pub parts_few : (heads items entries : ℕ) → entries ≤ items → entries_within heads items entries ≤ items
parts_few heads items entries few = few_by items entries (nat_le heads most_head) few

-- a number is one item
pub number_bounded : (number : ℕ) → Anything number → length (number_items number) ≤ most_items 1 0
number_bounded number valid = omega arith

-- a signed integer is one item
pub signed_bounded : (number : ℤ) → IsSigned number → length (signed_items number) ≤ most_items 1 0
signed_bounded number valid = omega arith

-- a long signed integer is two items
pub long_bounded : (number : ℤ) → IsLong number → length (long_items number) ≤ most_items 2 0
long_bounded number valid = omega arith

-- a key of dimensions is one item
pub dims_bounded : (dims : List Leaf) → Anything dims → length (dims_items dims) ≤ most_items 1 0
dims_bounded dims valid = omega arith

-- a key is two items
pub key_bounded : (key : MetricKey) → Anything key → length (key_items key) ≤ most_items 2 0
key_bounded key valid = omega arith

-- an atom is one item
pub atom_bounded : (atom : Atom) → Anything atom → length (atom_items atom) ≤ most_items 1 0
atom_bounded atom valid = omega arith

-- a pair has the heads and the entries of both
pub pair_bounded : {X Y : Type 0} (first : X → List Item) (second : Y → List Item) (first_valid : X → Type 0)
    (second_valid : Y → Type 0)
    (first_head second_head : ℕ) (first_entries : X → ℕ) (second_entries : Y → ℕ)
    → ((x : X) → first_valid x → length (first x) ≤ most_items first_head (first_entries x))
    → ((y : Y) → second_valid y → length (second y) ≤ most_items second_head (second_entries y))
    → (pair : X × Y) → IsValidPair first_valid second_valid pair
    → length (pair_items first second pair) ≤ most_items (head_within (first_head + second_head))
    (entries_within (first_head + second_head) (length (pair_items first second pair))
    (pair_entries first_entries second_entries pair))
pair_bounded first second first_valid second_valid first_head second_head first_entries second_entries one other pair
    valid =
    let one_is = one pair.0 valid.0 in
    let other_is = other pair.1 valid.1 in
    let sum = length-append (first pair.0) (second pair.1) in
    parts_bounded (first_head + second_head) (length (pair_items first second pair))
    (pair_entries first_entries second_entries pair) (omega arith)

-- elements have eight items at most for each entry
pub elements_bounded : {X : Type 0} (flat : X → List Item) (xs : List X)
    → length (flat_map flat xs) ≤ 8 * list_entries flat xs
elements_bounded flat [] = omega arith
elements_bounded flat (x ∷ xs) =
    let others = elements_bounded flat xs in
    let sum = sum_by-cons (λ value. entries_for (length (flat value))) x xs in
    let size = length-append (flat x) (flat_map flat xs) in
    omega arith

-- a list is one item, and eight at most for each entry
pub list_bounded : {X : Type 0} (flat : X → List Item) (valid : X → Type 0) → (values : List X) → All valid values
    → length (list_items flat values) ≤ most_items 1 (list_entries flat values)
list_bounded flat valid values all = let part = elements_bounded flat values in omega arith

-- no more entries than items
pub pair_few : {X Y : Type 0} (first : X → List Item) (second : Y → List Item) (heads : ℕ) (first_entries : X → ℕ)
    (second_entries : Y → ℕ)
    → ((x : X) → first_entries x ≤ length (first x)) → ((y : Y) → second_entries y ≤ length (second y))
    → (pair : X × Y)
    → entries_within heads (length (pair_items first second pair)) (pair_entries first_entries second_entries pair)
    ≤ length (pair_items first second pair)
pair_few first second heads first_entries second_entries one other pair =
    let one_is = one pair.0 in
    let other_is = other pair.1 in
    let sum = length-append (first pair.0) (second pair.1) in
    parts_few heads (length (pair_items first second pair)) (pair_entries first_entries second_entries pair)
    (omega arith)

-- elements have no more entries than items
pub elements_few : {X : Type 0} (flat : X → List Item) (xs : List X) → list_entries flat xs ≤ length (flat_map flat xs)
elements_few flat [] = omega arith
elements_few flat (x ∷ xs) =
    let others = elements_few flat xs in
    let sum = sum_by-cons (λ value. entries_for (length (flat value))) x xs in
    let size = length-append (flat x) (flat_map flat xs) in
    omega arith

-- a list has no more entries than items
pub list_few : {X : Type 0} (flat : X → List Item) (values : List X)
    → list_entries flat values ≤ length (list_items flat values)
list_few flat values = let part = elements_few flat values in omega arith

-- the entries of a value that may be missing: one for each eight items that are begun
abbrev pub option_entries : {X : Type 0} → (X → List Item) → Option X → ℕ
option_entries flat value = list_entries flat (option_to_list value)

-- a value that may be missing is one item, and eight at most for each entry
pub option_bounded : {X : Type 0} (flat : X → List Item) (valid : X → Type 0) → (value : Option X)
    → IsMissingOr valid value → length (option_items flat value) ≤ most_items 1 (option_entries flat value)
option_bounded flat valid value is = list_bounded flat valid (option_to_list value) is

-- one that may be missing has no more entries than items
pub option_few : {X : Type 0} (flat : X → List Item) (value : Option X)
    → option_entries flat value ≤ length (option_items flat value)
option_few flat value = list_few flat (option_to_list value)

-- a value without entries has no more of them than items
pub none_few : {X : Type 0} (flat : X → List Item) (value : X) → 0 ≤ length (flat value)
none_few flat value = omega arith

-- what two parts hold
pub held-append : (x y : List Item) → held (x ++ y) ≡ held x + held y
held-append [] y = omega arith
held-append (item ∷ x) y =
    let rest = held-append x y in
    let sum = sum_by-cons held_weight item x in
    let whole = sum_by-cons held_weight item (x ++ y) in
    omega arith

-- what elements hold, one by one
pub held-flat_map : {X : Type 0} (flat : X → List Item) (xs : List X)
    → held (flat_map flat xs) ≡ sum_by (λ x. held (flat x)) xs
held-flat_map flat [] = omega arith
held-flat_map flat (x ∷ xs) =
    let rest = held-flat_map flat xs in
    let sum = sum_by-cons (λ x. held (flat x)) x xs in
    let parts = held-append (flat x) (flat_map flat xs) in
    omega arith

-- the own bytes of two parts
pub own_sizes-append : (x y : List Item) → own_sizes (x ++ y) ≡ own_sizes x + own_sizes y
own_sizes-append [] y = omega arith
own_sizes-append (item ∷ x) y =
    let rest = own_sizes-append x y in
    let sum = sum_by-cons own_size item x in
    let whole = sum_by-cons own_size item (x ++ y) in
    omega arith

-- the own bytes of elements, one by one
pub own_sizes-flat_map : {X : Type 0} (flat : X → List Item) (xs : List X)
    → own_sizes (flat_map flat xs) ≡ sum_by (λ x. own_sizes (flat x)) xs
own_sizes-flat_map flat [] = omega arith
own_sizes-flat_map flat (x ∷ xs) =
    let rest = own_sizes-flat_map flat xs in
    let sum = sum_by-cons (λ x. own_sizes (flat x)) x xs in
    let parts = own_sizes-append (flat x) (flat_map flat xs) in
    omega arith
