-- For `SpelledItems`: what is held as bytes is read back, wherever it begins, and grows by one spelling at a time.
use Rattle.std.proofs.Common.{◌≡◌, ◌≢◌, ℕ, zero, suc, ◌+◌, ◌≤◌, ◌<◌, List, [], ◌∷◌, ◌++◌, Some, Ok, Err, length, drop, map, refl, sym, ap, subst, ◌∙◌, append_assoc, arith}
use Rattle.std.specs.Prelude.{All, slice_get}
use Rattle.std.proofs.Transfers.{drop-appended}
use Rattle.std.specs.Option.{option_map}
use Rattle.std.proofs.lemmas.Option.{slice_get-map}
use Rattle.std.proofs.lemmas.List.{length-append, length-map, append-nil, map-append}
use Rattle.std.proofs.lemmas.List.Elements.{All-nil, All-push}
use Rattle.flat_form.specs.declared.item.Item.{Item}
use Rattle.flat_form.specs.ItemReading.{NoItem, item_at}
use Rattle.flat_form.specs.ItemSpelling.{spelled_item, spelled_items}
use Rattle.flat_form.specs.Savable.{IsSavable}
use Rattle.flat_form.specs.ItemRange.{IsItemInRange}
use Rattle.flat_form.specs.Spelled.{read_item, items_from, starts_of, AreSpelled, FindsStarts}
use Rattle.sd_base.proofs.NumbersLemmas.{IsBytes}
use Rattle.flat_form.proofs.ItemReadingLaws.{IsItem, item_again}
use Rattle.flat_form.proofs.ItemRangeLaws.{both, long_item, spelled_push, HasRead, starts, goes_on, is_done}

-- what stands between two lists belongs to either
regroup : (p x s t : List ℕ) → p ++ ((x ++ s) ++ t) ≡ (p ++ x) ++ (s ++ t)
regroup p x s t = ap (λ l. p ++ l) (append_assoc x s t) ∙ sym (append_assoc p x (s ++ t))

-- the item that begins after the bytes before it
begins : (p : List ℕ) (item : Item) (after : List ℕ)
    → IsItem item
    → item_at (drop (length p) (p ++ (spelled_item item ++ after))) ≡ Ok (item, after)
begins p item after is =
    ap item_at (drop-appended p (p ++ (spelled_item item ++ after)) (spelled_item item ++ after) refl)
    ∙ item_again item after is

-- items that stand between other bytes are read where they begin
reads_back : (p : List ℕ) (items : List Item) (after : List ℕ)
    → All IsItem items
    → items_from (p ++ (spelled_items items ++ after)) (starts_of (length p) items) ≡ items
unfolding starts_of
reads_back p [] after each = refl
reads_back p (item ∷ items) after each =
    let bytes = p ++ (spelled_items (item ∷ items) ++ after) in
    let first : read_item (item_at (drop (length p) bytes)) ≡ item =
    ap (λ l. read_item (item_at (drop (length p) (p ++ l))))
    (append_assoc (spelled_item item) (spelled_items items) after)
    ∙ ap read_item (begins p item (spelled_items items ++ after) (each 0 item (omega arith))) in
    let rest : items_from ((p ++ spelled_item item) ++ (spelled_items items ++ after))
    (starts_of (length (p ++ spelled_item item)) items) ≡ items =
    reads_back (p ++ spelled_item item) items after (λ k d less. each (suc k) d (omega arith)) in
    let others : items_from bytes (starts_of (length p + length (spelled_item item)) items) ≡ items =
    ap (λ (l : List ℕ). items_from l (starts_of (length p + length (spelled_item item)) items))
    (regroup p (spelled_item item) (spelled_items items) after)
    ∙ ap (λ (n : ℕ). items_from ((p ++ spelled_item item) ++ (spelled_items items ++ after)) (starts_of n items))
    (sym (length-append p (spelled_item item)))
    ∙ rest in
    ap (λ i. i ∷ items_from bytes (starts_of (length p + length (spelled_item item)) items)) first
    ∙ ap (λ l. item ∷ l) others

-- the last of some items begins after the spelling of the others
starts_push : (place : ℕ) (items : List Item) (item : Item)
    → starts_of place (items ++ item ∷ []) ≡ starts_of place items ++ (place + length (spelled_items items)) ∷ []
unfolding starts_of
starts_push place [] item = let same : place ≡ place + 0 = omega arith in ap (λ n. n ∷ []) same
starts_push place (one ∷ items) item =
    let sum = length-append (spelled_item one) (spelled_items items) in
    let same : (place + length (spelled_item one)) + length (spelled_items items)
    ≡ place + length (spelled_items (one ∷ items)) = omega arith in
    ap (λ l. place ∷ l) (starts_push (place + length (spelled_item one)) items item)
    ∙ ap (λ n. place ∷ (starts_of (place + length (spelled_item one)) items ++ n ∷ [])) same

-- the same of all items that are held
starts_last : (items : List Item) (item : Item)
    → starts_of 0 (items ++ item ∷ []) ≡ starts_of 0 items ++ length (spelled_items items) ∷ []
starts_last items item =
    let same : 0 + length (spelled_items items) ≡ length (spelled_items items) = omega arith in
    starts_push 0 items item ∙ ap (λ n. starts_of 0 items ++ n ∷ []) same

-- what is held of these items
pub record IsHeld (bytes places : List ℕ) (items : List Item) : Type 0 where
  pub view : items_from bytes places ≡ items
  pub are : AreSpelled bytes places

-- items are held by their spelling and by where each begins
pub holds : (bytes places : List ℕ) (items : List Item)
    → All IsItem items
    → bytes ≡ spelled_items items
    → places ≡ starts_of 0 items
    → IsHeld bytes places items
holds bytes places items each spelled begin =
    let view : items_from bytes places ≡ items =
    ap (λ l. items_from l places) (spelled ∙ sym (append-nil (spelled_items items)))
    ∙ ap (items_from (spelled_items items ++ [])) begin ∙ reads_back [] items [] each in
    record {
      view = view;
      are = record {
        can_be = rw view (λ k d less. (each k d less).0, λ k d less. (each k d less).1);
        spelled = spelled ∙ ap spelled_items (sym view);
        begin = begin ∙ ap (starts_of 0) (sym view);
      };
    }

-- no items are held by no bytes
pub none_held : AreSpelled [] []
unfolding starts_of
none_held = record { can_be = (All-nil IsSavable, All-nil IsItemInRange); spelled = refl; begin = refl }

-- one more item is held by its spelling after the others
pub grows : (bytes places : List ℕ) (item : Item)
    → AreSpelled bytes places
    → IsItem item
    → IsHeld (bytes ++ spelled_item item) (places ++ length bytes ∷ []) (items_from bytes places ++ item ∷ [])
grows bytes places item are is =
    let items = items_from bytes places in
    holds (bytes ++ spelled_item item) (places ++ length bytes ∷ []) (items ++ item ∷ [])
    (All-push IsItem items item (both items are.can_be) is)
    (ap (λ l. l ++ spelled_item item) are.spelled ∙ sym (spelled_push items item))
    (ap (λ l. l ++ length bytes ∷ []) are.begin ∙ ap (λ (l : List ℕ). starts_of 0 items ++ length l ∷ []) are.spelled
    ∙ sym (starts_last items item))

-- the same, where what is held after is known by what was added
pub grown : (bytes places : List ℕ) (item : Item) (after later : List ℕ)
    → AreSpelled bytes places
    → IsItem item
    → after ≡ bytes ++ spelled_item item
    → later ≡ places ++ length bytes ∷ []
    → IsHeld after later (items_from bytes places ++ item ∷ [])
grown bytes places item after later are is added noted = rw (added, noted) (grows bytes places item are is)

-- where items begin that were read of the bytes, and what is left
pub record HasFound (bytes places rest : List ℕ) : Type 0 where
  pub read : HasRead bytes (items_from bytes places) rest
  pub begin : places ≡ starts_of 0 (items_from bytes places)

-- none is found yet
pub none_found : (bytes : List ℕ) → IsBytes bytes → HasFound bytes [] bytes
unfolding starts_of
none_found bytes fits = record { read = starts bytes fits; begin = refl }

-- one more item is found where the rest begins
pub finds : (bytes places rest : List ℕ) (place : ℕ) (item : Item) (after : List ℕ)
    → HasFound bytes places rest
    → 0 < length rest
    → place + length rest ≡ length bytes
    → item_at rest ≡ Ok (item, after)
    → HasFound bytes (places ++ place ∷ []) after
unfolding starts_of
finds bytes places rest place item after has some stands read =
    let items = items_from bytes places in
    let sum : length bytes ≡ length (spelled_items items) + length rest = ap length has.read.parts
    ∙ length-append (spelled_items items) rest in
    let at : place ≡ length (spelled_items items) = omega arith in
    let left : drop place bytes ≡ rest = ap (λ n. drop n bytes) at
    ∙ drop-appended (spelled_items items) bytes rest has.read.parts in
    let last : read_item (item_at (drop place bytes)) ≡ item =
    ap (λ l. read_item (item_at l)) left ∙ ap read_item read in
    let view : items_from bytes (places ++ place ∷ []) ≡ items ++ item ∷ [] =
    map-append (λ start. read_item (item_at (drop start bytes))) places (place ∷ [])
    ∙ ap (λ i. items ++ i ∷ []) last in
    record {
      read = subst (λ (l : List Item). HasRead bytes l after) (sym view)
          (goes_on bytes items rest item after has.read some read);
      begin = ap (λ l. l ++ place ∷ []) has.begin ∙ ap (λ n. starts_of 0 items ++ n ∷ []) at
          ∙ sym (starts_last items item) ∙ ap (starts_of 0) (sym view);
    }

-- all items are found
pub all_found : (bytes places rest : List ℕ)
    → HasFound bytes places rest
    → length rest ≡ 0
    → FindsStarts bytes (Ok places)
all_found bytes places rest has none =
    let items = items_from bytes places in
    let read = is_done bytes items rest has.read none in
    (record { can_be = read.can_be; spelled = read.spelled; begin = has.begin }, read)

-- items begin within their spelling
begin_within : (from : ℕ) (items : List Item) (place start : ℕ)
    → slice_get (starts_of from items) place ≡ Some start
    → start ≤ from + length (spelled_items items)
unfolding starts_of
begin_within from [] place start found = absurd cc
begin_within from (item ∷ items) zero start found = let same : from ≡ start = cc in omega arith
begin_within from (item ∷ items) (suc place) start found =
    let sum = length-append (spelled_item item) (spelled_items items) in
    let later = begin_within (from + length (spelled_item item)) items place start found in
    omega arith

-- where an item begins that stands between other bytes, one is read
reads_one : (p : List ℕ) (items : List Item) (after : List ℕ) (place start : ℕ) (none : NoItem)
    → All IsItem items
    → slice_get (starts_of (length p) items) place ≡ Some start
    → item_at (drop start (p ++ (spelled_items items ++ after))) ≢ Err none
unfolding starts_of
reads_one p [] after place start none each found fails = absurd cc
reads_one p (item ∷ items) after zero start none each found fails =
    let same : length p ≡ start = cc in
    let read = ap (λ n. item_at (drop n (p ++ (spelled_items (item ∷ items) ++ after)))) (sym same)
    ∙ ap (λ l. item_at (drop (length p) (p ++ l))) (append_assoc (spelled_item item) (spelled_items items) after)
    ∙ begins p item (spelled_items items ++ after) (each 0 item (omega arith)) in
    absurd cc
reads_one p (item ∷ items) after (suc place) start none each found fails =
    reads_one (p ++ spelled_item item) items after place start none (λ k d less. each (suc k) d (omega arith))
    (ap (λ n. slice_get (starts_of n items) place) (length-append p (spelled_item item)) ∙ found)
    (ap (λ l. item_at (drop start l)) (sym (regroup p (spelled_item item) (spelled_items items) after)) ∙ fails)

-- what is known of the place where an item begins
pub record IsPlaceOf (bytes places : List ℕ) (place start : ℕ) : Type 0 where
  pub within : start ≤ length bytes
  pub found : slice_get (items_from bytes places) place ≡ Some (read_item (item_at (drop start bytes)))
  pub read : (none : NoItem) → item_at (drop start bytes) ≢ Err none

-- an item that is held begins within the bytes and is read there
pub is_place : (bytes places : List ℕ) (place start : ℕ)
    → AreSpelled bytes places
    → slice_get places place ≡ Some start
    → IsPlaceOf bytes places place start
is_place bytes places place start are found =
    let read : ℕ → Item = λ start. read_item (item_at (drop start bytes)) in
    let items = items_from bytes places in
    let size : length bytes ≡ length (spelled_items items) = ap length are.spelled in
    let within = begin_within 0 items place start (ap (λ l. slice_get l place) (sym are.begin) ∙ found) in
    record {
      within = omega arith;
      found = slice_get-map read places place ∙ ap (option_map read) found;
      read = λ none fails. reads_one [] items [] place start none (both items are.can_be)
          (ap (λ l. slice_get l place) (sym are.begin) ∙ found)
          (ap (λ l. item_at (drop start l)) (append-nil (spelled_items items) ∙ sym are.spelled) ∙ fails);
    }

-- an item has a byte at least
each_long : (items : List Item) → length items ≤ length (spelled_items items)
each_long [] = omega arith
each_long (item ∷ items) =
    let sum = length-append (spelled_item item) (spelled_items items) in
    let some = long_item item in
    let others = each_long items in
    omega arith

-- no more items are held than bytes
pub few_held : (bytes places : List ℕ) → AreSpelled bytes places → length places ≤ length bytes
few_held bytes places are =
    let count = length-map places (λ (start : ℕ). read_item (item_at (drop start bytes))) in
    let size : length bytes ≡ length (spelled_items (items_from bytes places)) = ap length are.spelled in
    let long = each_long (items_from bytes places) in
    omega arith
