-- What may be live beside what is live, by names that are apart and by numbers of clients.
use Rattle.std.proofs.Common.{◌≡◌, ◌↔◌, IsTrue, ℕ, ◌+◌, ◌-◌, ◌<◌, ◌≤◌, ℤ, Bool, true, false, cond, ◌&&◌, ◌||◌, List, [], ◌∷◌, ◌++◌, Option, Some, None, is_some, refl, sym, ap, subst, ◌∙◌, arith, true≢false, append_assoc, append-nil, take, length, slice_get, All, inl, inr}
use Rattle.std.proofs.lemmas.Bool.{false≢true}
use Rattle.std.specs.List.{AllByRecursion, IsDistinct, count_by, flat_map}
use Rattle.std.specs.Option.{option_map}
use Rattle.std.specs.Map.{keys_of}
use Rattle.std.specs.Ordering.{int_eq}
use Rattle.std.specs.Cmp.{signed_Decides}
use Rattle.std.proofs.lemmas.List.Sums.{sum_by-cons}
use Rattle.std.proofs.lemmas.List.{take_more, take_all, length-map}
use Rattle.std.proofs.lemmas.List.Concat.{flat_map-append}
use Rattle.std.proofs.lemmas.List.Elements.{All-nil, All-push}
use Rattle.std.proofs.lemmas.Option.{slice_get-map, slice_get_within, slice_get_cases, get_or_from_slice_get}
use Rattle.flat_form.specs.Flat.{number_items, list_items}
use Rattle.flat_form.specs.declared.item.Item.{Item}
use Rattle.indexmap.specs.IndexMap.{insert_entry}
use Rattle.indexmap.proofs.MapLemmas.{absent_from_lookup, insert_entry-absent}
use Rattle.id_notes.specs.Noted.{is_named}
use Rattle.client_engine.specs.declared.live_id.LiveId.{LiveId}
use Rattle.hub_core.specs.CarriedConfigs.{Saved}
use Rattle.hub_core.specs.NamedLives.{saved_row, saved_rows, names_of, AreNamed}
use Rattle.hub_core.specs.SavedConfigs.{carried_items, IsCarried}
use Rattle.hub_core.specs.SavedHubs.{count_saved, MayBeLive, GoesBeside, AreAllLive}
use Rattle.hub_core.specs.Slots.{same_id, slot_at, count_at, others_at, held_by}
use Rattle.hub_core.specs.declared.live_instance.LiveInstance.{LiveInstance}
use Rattle.hub_core.proofs.HeldLemmas.{held-names}
use Rattle.hub_core.proofs.NamesLemmas.{same_equiv}

-- the rows of what is live
abbrev Rows : Type 0
Rows = List (LiveId × LiveInstance)

-- one more of all
saved-push : (rows : Rows) (row : LiveId × LiveInstance)
    → saved_rows (rows ++ row ∷ []) ≡ saved_rows rows ++ saved_row row ∷ []
saved-push [] row = refl
saved-push (first ∷ rows) row = ap (λ l. saved_row first ∷ l) (saved-push rows row)

names-push : (lives : List Saved) (one : Saved) → names_of (lives ++ one ∷ []) ≡ names_of lives ++ one.name ∷ []
names-push [] one = refl
names-push (first ∷ lives) one = ap (λ l. first.name ∷ l) (names-push lives one)

-- whether one is the client's, as a number
abbrev one_for : ℤ → Saved → ℕ
one_for uid it = cond (int_eq it.name.uid uid) 1 0

count-cons : (uid : ℤ) (it : Saved) (lives : List Saved)
    → count_saved uid (it ∷ lives) ≡ one_for uid it + count_saved uid lives
count-cons uid it lives = sum_by-cons (one_for uid) it lives

count-push : (uid : ℤ) (lives : List Saved) (one : Saved)
    → count_saved uid (lives ++ one ∷ []) ≡ count_saved uid lives + one_for uid one
count-push uid [] one = let only = count-cons uid one [] in omega (arith, only)
count-push uid (first ∷ lives) one =
    let more = count-cons uid first (lives ++ one ∷ []) in
    let less = count-cons uid first lives in
    let rest = count-push uid lives one in
    omega (arith, more, less, rest)

-- a client's number hangs on the names alone
count-names : (uid : ℤ) (lives : List Saved)
    → count_saved uid lives ≡ count_by (λ (name : LiveId). int_eq name.uid uid) (names_of lives)
count-names uid [] = refl
count-names uid (it ∷ lives) =
    let rest = count-names uid lives in
    let here = count-cons uid it lives in
    let names = sum_by-cons (λ (name : LiveId). cond (int_eq name.uid uid) 1 0) it.name (names_of lives) in
    omega (arith, rest, here, names)

-- it is that of the rows, where each stands under its own name
pub count-rows : (uid : ℤ) (rows : Rows) → AreNamed rows → count_saved uid (saved_rows rows) ≡ held_by uid rows
count-rows uid rows named =
    count-names uid (saved_rows rows)
    ∙ ap (count_by (λ (name : LiveId). int_eq name.uid uid)) (sym named) ∙ sym (held-names uid rows)

-- what is live may be
pub rows_may : (rows : Rows) → AreNamed rows → IsDistinct same_id (keys_of rows) → ((uid : ℤ) → held_by uid rows ≤ 10)
    → MayBeLive (saved_rows rows)
rows_may rows named distinct few = record {
  apart = subst (IsDistinct same_id) named distinct;
  few = λ uid. subst (λ n. n ≤ 10) (sym (count-rows uid rows named)) (few uid);
}

-- what is so of each of a list is so of each of its front, and of its last
all_front : (P : LiveId → Type 0) (names more : List LiveId) → AllByRecursion P (names ++ more) → AllByRecursion P names
all_front P [] more all = tt
all_front P (first ∷ names) more all = (all.0, all_front P names more all.1)

all_last : (P : LiveId → Type 0) (names : List LiveId) (name : LiveId) → AllByRecursion P (names ++ name ∷ []) → P name
all_last P [] name all = all.0
all_last P (first ∷ names) name all = all_last P names name all.1

-- names that are apart without the last are apart
distinct_front : (names more : List LiveId) → IsDistinct same_id (names ++ more) → IsDistinct same_id names
unfolding IsDistinct
distinct_front [] more distinct = tt
distinct_front (first ∷ names) more distinct =
    (all_front (λ name. same_id first name ≡ false) names more distinct.0, distinct_front names more distinct.1)

-- and the last isn't among the others
distinct_last : (names : List LiveId) (name : LiveId) → IsDistinct same_id (names ++ name ∷ [])
    → is_named same_id name names ≡ false
unfolding IsDistinct
distinct_last [] name distinct = refl
distinct_last (first ∷ names) name distinct =
    let apart : same_id name first ≡ false =
    same_equiv.symm name first ∙ all_last (λ other. same_id first other ≡ false) names name distinct.0 in
    ap (λ b. b || is_named same_id name names) apart ∙ distinct_last names name distinct.1

-- a name is taken where it is among the keys
taken : (name : LiveId) (rows : Rows) → is_named same_id name (keys_of rows) ≡ is_some (slot_at name rows)
taken name [] = refl
taken name (row ∷ rows) = by_case (same_id name row.0) (taken name rows) where
  by_case : (same : Bool) → is_named same_id name (keys_of rows) ≡ is_some (slot_at name rows)
      → (same || is_named same_id name (keys_of rows)) ≡ is_some (cond same (Some row.1) (slot_at name rows))
  by_case true rest = refl
  by_case false rest = rest

none_some : (slot : Option LiveInstance) → is_some slot ≡ false → slot ≡ None
none_some None is = refl
none_some (Some live) is = absurd (true≢false is)

-- what may be live may be without the last
pub may_front : (lives : List Saved) (one : Saved) → MayBeLive (lives ++ one ∷ []) → MayBeLive lives
may_front lives one may = record {
  apart = distinct_front (names_of lives) (one.name ∷ []) (subst (IsDistinct same_id) (names-push lives one) may.apart);
  few = λ uid.
      let most = may.few uid in
      let more = count-push uid lives one in
      omega (arith, most, more);
}

module _ (rows : Rows) (counts : List (ℤ × ℕ)) (named : AreNamed rows)
    (counted : (uid : ℤ) → held_by uid rows ≡ count_at uid counts) (one : Saved) where
  -- what may be live beside these has a name of its own, and room
  pub has_room : MayBeLive (saved_rows rows ++ one ∷ [])
      → (slot_at one.name rows ≡ None) × (others_at one.name.uid false counts < 10)
  has_room may =
      let uid = one.name.uid in
      let fresh : is_named same_id one.name (keys_of rows) ≡ false =
      ap (is_named same_id one.name) named
      ∙ distinct_last (names_of (saved_rows rows)) one.name
      (subst (IsDistinct same_id) (names-push (saved_rows rows) one) may.apart) in
      let own : one_for uid one ≡ 1 = ap (λ b. cond b 1 0) ((signed_Decides uid uid).1 refl) in
      let most = may.few uid in
      let more = count-push uid (saved_rows rows) one in
      let same = count-rows uid rows named in
      let number = counted uid in
      let others : others_at uid false counts ≡ count_at uid counts = omega arith in (
        none_some (slot_at one.name rows) (sym (taken one.name rows) ∙ fresh),
        omega (arith, own, most, more, same, number, others),
      )

-- what goes in under a new name comes last
pub goes_last : (rows news : Rows) (name : LiveId) (live : LiveInstance) (one : Saved) → slot_at name rows ≡ None
    → live.carried ≡ one → news ≡ insert_entry same_id rows name live
    → GoesBeside (saved_rows rows) one (saved_rows news) true
goes_last rows news name live one none is added = record {
  added = λ yes.
      ap saved_rows
      (added ∙ insert_entry-absent same_id name live rows (absent_from_lookup (same_id name) rows none))
      ∙ saved-push rows (name, live) ∙ ap (λ (it : Saved). saved_rows rows ++ it ∷ []) is;
  refused = λ no. absurd (true≢false no);
}

-- what may not be beside them isn't
goes_not : (rows : Rows) (one : Saved) → ¬ MayBeLive (saved_rows rows ++ one ∷ [])
    → GoesBeside (saved_rows rows) one (saved_rows rows) false
goes_not rows one not_so = record { added = λ yes. absurd (false≢true yes); refused = λ no. not_so }

-- A test for a name of its own and for room.
abbrev pub SaysRoom : Bool → LiveId → Rows → List (ℤ × ℕ) → Type 0
SaysRoom answer name rows counts =
    IsTrue answer ↔ ((slot_at name rows ≡ None) × (others_at name.uid false counts < 10))

-- where the test fails it may not go in
pub stays_out : (rows : Rows) (counts : List (ℤ × ℕ)) → AreNamed rows
    → ((uid : ℤ) → held_by uid rows ≡ count_at uid counts) → (one : Saved) (name : LiveId) (answer : Bool)
    → name ≡ one.name → SaysRoom answer name rows counts → answer ≡ false
    → GoesBeside (saved_rows rows) one (saved_rows rows) false
stays_out rows counts named counted one name answer same says off =
    goes_not rows one (λ may.
    true≢false (sym (says.1 (subst
    (λ (n : LiveId). (slot_at n rows ≡ None) × (others_at n.uid false counts < 10)) (sym same)
    (has_room rows counts named counted one may))) ∙ off))

-- where it holds it goes in last
pub goes_in_last : (rows inner news : Rows) (counts : List (ℤ × ℕ)) (one : Saved) (asked name : LiveId)
    (live : LiveInstance) (answer : Bool) → asked ≡ one.name → SaysRoom answer asked rows counts → answer ≡ true
    → inner ≡ rows → name ≡ one.name → live.carried ≡ one → news ≡ insert_entry same_id inner name live
    → GoesBeside (saved_rows rows) one (saved_rows news) true
goes_in_last rows inner news counts one asked name live answer same says on kept own is added =
    let free : slot_at asked rows ≡ None = (says.0 on).0 in
    let none : slot_at name rows ≡ None = ap (λ (n : LiveId). slot_at n rows) (own ∙ sym same) ∙ free in
    goes_last rows news name live one none is
    (added ∙ ap (λ (l : Rows). insert_entry same_id l name live) kept)

-- So far all of these are live, or they may not be.
pub record AreSoFar (fits : Bool) (rows : Rows) (so_far : List Saved) : Type 0 where
  pub same : fits ≡ true → saved_rows rows ≡ so_far
  pub refused : fits ≡ false → ¬ MayBeLive so_far

pub none_so_far : (rows : Rows) → rows ≡ [] → AreSoFar true rows []
none_so_far rows is = record { same = λ yes. ap saved_rows is; refused = λ no. absurd (true≢false no) }

-- one more
pub one_more : (fits goes : Bool) (rows news : Rows) (so_far : List Saved) (one : Saved) → AreSoFar fits rows so_far
    → GoesBeside (saved_rows rows) one (saved_rows news) goes → AreSoFar (fits && goes) news (so_far ++ one ∷ [])
one_more true goes rows news so_far one so beside =
    let same : saved_rows rows ≡ so_far = so.same refl in
    record {
      same = λ yes. beside.added yes ∙ ap (λ l. l ++ one ∷ []) same;
      refused = λ no may. beside.refused no (subst (λ l. MayBeLive (l ++ one ∷ [])) (sym same) may);
    }
one_more false goes rows news so_far one so beside = record {
  same = λ yes. absurd (false≢true yes);
  refused = λ no may. so.refused refl (may_front so_far one may);
}

-- all are live
pub all_live : (rows : Rows) (all : List Saved) → AreSoFar true rows all → MayBeLive (saved_rows rows)
    → AreAllLive all (saved_rows rows)
all_live rows all so may = record { same = so.same refl; may = subst MayBeLive (so.same refl) may }

-- The items of the rows so far were added, and each is one that can be saved.
pub record AreAdded (rows : Rows) (place : ℕ) (old out : List Item) : Type 0 where
  pub added : out ≡ old ++ flat_map carried_items (take place (saved_rows rows))
  pub carried : All IsCarried (take place (saved_rows rows))

-- at first none was
pub none_added : (rows : Rows) (old : List Item) → AreAdded rows 0 old old
none_added rows old = record { added = sym (append-nil old); carried = All-nil IsCarried }

-- a row as it is saved stands at its place
saved_at : (rows : Rows) (place : ℕ) (row : LiveId × LiveInstance) → slice_get rows place ≡ Some row
    → slice_get (saved_rows rows) place ≡ Some (saved_row row)
saved_at rows place row is = slice_get-map saved_row rows place ∙ ap (option_map saved_row) is

-- one more was added
pub row_added : (rows : Rows) (place : ℕ) (row : LiveId × LiveInstance) (old out new : List Item)
    → slice_get rows place ≡ Some row → AreAdded rows place old out → new ≡ out ++ carried_items row.1.carried
    → IsCarried row.1.carried → AreAdded rows (place + 1) old new
row_added rows place row old out new at before added valid =
    let lives = saved_rows rows in
    let here : slice_get lives place ≡ Some row.1.carried = saved_at rows place row at in
    let is : take (place + 1) lives ≡ take place lives ++ row.1.carried ∷ [] =
    take_more lives place row.1.carried (slice_get_within lives place row.1.carried here)
    ∙ ap (λ r. take place lives ++ r ∷ []) (get_or_from_slice_get lives place row.1.carried row.1.carried here) in
    let items : flat_map carried_items (take (place + 1) lives)
    ≡ flat_map carried_items (take place lives) ++ carried_items row.1.carried =
    ap (flat_map carried_items) is ∙ flat_map-append carried_items (take place lives) (row.1.carried ∷ [])
    ∙ ap (λ l. flat_map carried_items (take place lives) ++ l) (append-nil (carried_items row.1.carried)) in
    record {
      added = added ∙ ap (λ l. l ++ carried_items row.1.carried) before.added
          ∙ append_assoc old (flat_map carried_items (take place lives)) (carried_items row.1.carried)
          ∙ ap (λ l. old ++ l) (sym items);
      carried = subst (All IsCarried) (sym is)
          (All-push IsCarried (take place lives) row.1.carried before.carried valid);
    }

-- past the last row nothing stands
pub past_rows : (rows : Rows) (place : ℕ) → slice_get rows place ≡ None → length rows ≤ place
past_rows rows place none = elim ((slice_get_cases rows place).1) [ inl h ↦ absurd (cc (h.2)) | inr h ↦ h.0 ]

-- there are as many as rows
as_many_rows : (rows : Rows) → length (saved_rows rows) ≡ length rows
as_many_rows rows = length-map rows saved_row

-- those of all rows were added
pub all_added : (rows : Rows) (place : ℕ) (old out : List Item) → length rows ≤ place → AreAdded rows place old out
    → out ≡ old ++ flat_map carried_items (saved_rows rows)
all_added rows place old out end are =
    let count = as_many_rows rows in
    are.added ∙ ap (λ (l : List Saved). old ++ flat_map carried_items l)
    (take_all place (saved_rows rows) (omega (arith, end, count)))

pub all_carried : (rows : Rows) (place : ℕ) (old out : List Item) → length rows ≤ place → AreAdded rows place old out
    → All IsCarried (saved_rows rows)
all_carried rows place old out end are =
    let count = as_many_rows rows in
    subst (All IsCarried) (take_all place (saved_rows rows) (omega (arith, end, count))) are.carried

-- and come after their number
pub rows_added : (rows : Rows) (count : ℕ) (old middle out : List Item) → count ≡ length rows
    → middle ≡ old ++ number_items count → out ≡ middle ++ flat_map carried_items (saved_rows rows)
    → out ≡ old ++ list_items carried_items (saved_rows rows)
rows_added rows count old middle out is first rest =
    let items = flat_map carried_items (saved_rows rows) in
    rest ∙ ap (λ l. l ++ items) first ∙ append_assoc old (number_items count) items
    ∙ ap (λ (n : ℕ). old ++ (number_items n ++ items)) (is ∙ sym (as_many_rows rows))
