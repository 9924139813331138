-- Names, lists of them, and what counts for those on a list.
use Rattle.std.proofs.Common.{◌≡◌, ℕ, zero, suc, ◌+◌, ◌<◌, ◌≤◌, ℤ, pos, Bool, true, false, ◌&&◌, ◌||◌, List, [], ◌∷◌, ◌++◌, length, take, get_or, slice_get, Some, refl, sym, ap, subst, ◌∙◌, arith, true≢false}
use Rattle.std.specs.Prelude.{if◌then◌else◌}
use Rattle.std.specs.Cmp.{IsEquivalence, signed_Decides}
use Rattle.std.specs.List.{AllByRecursion, IsDistinct, sum_by}
use Rattle.std.specs.Map.{keys_of}
use Rattle.std.specs.Ordering.{int_eq}
use Rattle.std.proofs.lemmas.Cmp.{int_eq_equiv}
use Rattle.std.proofs.lemmas.List.{take_more}
use Rattle.std.proofs.lemmas.List.Folds.{list_any-append}
use Rattle.std.proofs.lemmas.List.Sums.{sum_by-cons}
use Rattle.std.proofs.lemmas.Option.{none-some, same_Some, slice_get-get_or, get_or_from_slice_get}
use Rattle.id_notes.specs.Noted.{is_named}
use Rattle.client_engine.specs.declared.live_id.LiveId.{LiveId}
use Rattle.hub_core.specs.declared.live_instance.LiveInstance.{LiveInstance}
use Rattle.hub_core.specs.LiveQuestions.{counted_for}
use Rattle.hub_core.specs.Slots.{live_id, same_id, slot_at}

-- both of two
both_hold : (one other : Bool) → (one && other) ≡ true → (one ≡ true) × (other ≡ true)
both_hold true other e = (refl, e)
both_hold false other e = absurd (true≢false (sym e))

-- names are compared by client and id
pub same_equiv : IsEquivalence same_id
same_equiv = record {
  refl = λ name. ap (λ b. b && int_eq name.id name.id) (int_eq_equiv.refl name.uid) ∙ int_eq_equiv.refl name.id;
  symm = λ name other.
      ap (λ b. b && int_eq name.id other.id) (int_eq_equiv.symm name.uid other.uid)
      ∙ ap (λ b. int_eq other.uid name.uid && b) (int_eq_equiv.symm name.id other.id);
  congr = λ name other third same.
      let both = both_hold (int_eq name.uid other.uid) (int_eq name.id other.id) same in
      ap (λ b. b && int_eq name.id third.id) (int_eq_equiv.congr name.uid other.uid third.uid both.0)
      ∙ ap (λ b. int_eq other.uid third.uid && b) (int_eq_equiv.congr name.id other.id third.id both.1);
}

-- what compares as the same is the same
pub same_is : (name other : LiveId) → same_id name other ≡ true → name ≡ other
same_is name other same =
    let both = both_hold (int_eq name.uid other.uid) (int_eq name.id other.id) same in
    ap (λ (uid : ℤ). live_id uid name.id) ((signed_Decides name.uid other.uid).0 both.0)
    ∙ ap (λ (id : ℤ). live_id other.uid id) ((signed_Decides name.id other.id).0 both.1)

-- nothing more
pub right_false : (b : Bool) → (b || false) ≡ b
right_false true = refl
right_false false = refl

-- a name on one of two lists
pub named-append : (name : LiveId) (names more : List LiveId)
    → is_named same_id name (names ++ more) ≡ (is_named same_id name names || is_named same_id name more)
named-append name names more = list_any-append (same_id name) names more

-- a name on a list with one more
pub named-push : (name : LiveId) (names : List LiveId) (last : LiveId)
    → is_named same_id name (names ++ last ∷ []) ≡ (is_named same_id name names || same_id name last)
named-push name names last =
    named-append name names (last ∷ [])
    ∙ ap (λ b. is_named same_id name names || b) (right_false (same_id name last))

or_left : (one other : Bool) → one ≡ true → (one || other) ≡ true
or_left one other e = ap (λ b. b || other) e

or_right : (one other : Bool) → other ≡ true → (one || other) ≡ true
or_right true other e = refl
or_right false other e = e

-- what is on one list is on both
pub named_first : (name : LiveId) (names more : List LiveId) → is_named same_id name names ≡ true
    → is_named same_id name (names ++ more) ≡ true
named_first name names more here =
    named-append name names more ∙ or_left (is_named same_id name names) (is_named same_id name more) here

pub named_second : (name : LiveId) (names more : List LiveId) → is_named same_id name more ≡ true
    → is_named same_id name (names ++ more) ≡ true
named_second name names more here =
    named-append name names more ∙ or_right (is_named same_id name names) (is_named same_id name more) here

-- the last of a list is on it
pub named_last : (name : LiveId) (names : List LiveId) → is_named same_id name (names ++ name ∷ []) ≡ true
named_last name names =
    named-push name names name ∙ or_right (is_named same_id name names) (same_id name name) (same_equiv.refl name)

-- what is so of each of a list
pub all_at : (P : LiveId → Type 0) (names : List LiveId) (place : ℕ) (name : LiveId) → AllByRecursion P names
    → slice_get names place ≡ Some name → P name
all_at P [] place name all is = absurd (none-some name is)
all_at P (first ∷ names) zero name all is = subst P (same_Some first name is) all.0
all_at P (first ∷ names) (suc place) name all is = all_at P names place name all.1 is

-- a name of a list without repeats isn't among those before it
named_before : (names : List LiveId) (place : ℕ) (name : LiveId) → IsDistinct same_id names
    → slice_get names place ≡ Some name → is_named same_id name (take place names) ≡ false
unfolding IsDistinct
named_before [] zero name distinct is = refl
named_before [] (suc place) name distinct is = refl
named_before (first ∷ names) zero name distinct is = refl
named_before (first ∷ names) (suc place) name distinct is =
    let apart : same_id name first ≡ false =
    same_equiv.symm name first ∙ all_at (λ other. same_id first other ≡ false) names place name distinct.0 is in
    ap (λ b. b || is_named same_id name (take place names)) apart ∙ named_before names place name distinct.1 is

-- a name, where some name is asked for
abbrev pub some_name : LiveId
some_name = live_id (pos 0) (pos 0)

-- The name at a place of a list without repeats comes behind those before it, and isn't among them.
pub record NextName (names : List LiveId) (place : ℕ) (name : LiveId) : Type 0 where
  pub fresh : is_named same_id name (take place names) ≡ false
  pub next : take (place + 1) names ≡ take place names ++ name ∷ []

pub next_name : (names : List LiveId) (place : ℕ) (other : LiveId) → IsDistinct same_id names → place < length names
    → NextName names place (get_or names place other)
next_name names place other distinct within =
    let there : slice_get names place ≡ Some (get_or names place other) = slice_get-get_or names place other within in
    record {
      fresh = named_before names place (get_or names place other) distinct there;
      next = take_more names place (get_or names place other) within
          ∙ ap (λ (name : LiveId). take place names ++ name ∷ [])
          (get_or_from_slice_get names place (get_or names place other) (get_or names place other) there);
    }

module _ (most : LiveId → ℕ) where
  -- what a name counts on a longer list is no less
  counted_more : (name : LiveId) (here there : Bool) → (here ≡ true → there ≡ true)
      → (if here then most name else 0) ≤ (if there then most name else 0)
  counted_more name true there also =
      subst (λ b. most name ≤ (if b then most name else 0)) (sym (also refl)) (omega arith)
  counted_more name false there also = omega arith

  -- nor is the sum
  pub sum_more : (names more keys : List LiveId)
      → sum_by (counted_for names most) keys ≤ sum_by (counted_for (names ++ more) most) keys
  sum_more names more [] = omega arith
  sum_more names more (key ∷ keys) =
      let rest = sum_more names more keys in
      let one : counted_for names most key ≤ counted_for (names ++ more) most key =
      counted_more key (is_named same_id key names) (is_named same_id key (names ++ more))
      (named_first key names more) in
      let before = sum_by-cons (counted_for names most) key keys in
      let after = sum_by-cons (counted_for (names ++ more) most) key keys in
      omega (arith, rest, one, before, after)

  -- nor is that of all
  pub sum_all : (names keys : List LiveId) → sum_by (counted_for names most) keys ≤ sum_by most keys
  sum_all names [] = omega arith
  sum_all names (key ∷ keys) =
      let rest = sum_all names keys in
      let one : counted_for names most key ≤ most key = at_most (is_named same_id key names) in
      let before = sum_by-cons (counted_for names most) key keys in
      let after = sum_by-cons most key keys in
      omega (arith, rest, one, before, after) where
        at_most : (named : Bool) → (if named then most key else 0) ≤ most key
        at_most true = omega arith
        at_most false = omega arith

  -- where no name is on both lists, the sums of both are no more than that of the two together
  pub sum_both : (names more keys : List LiveId)
      → ((name : LiveId) → (is_named same_id name names && is_named same_id name more) ≡ false)
      → sum_by (counted_for names most) keys + sum_by (counted_for more most) keys
      ≤ sum_by (counted_for (names ++ more) most) keys
  sum_both names more [] apart = omega arith
  sum_both names more (key ∷ keys) apart =
      let rest = sum_both names more keys apart in
      let one : counted_for names most key + counted_for more most key ≤ counted_for (names ++ more) most key =
      subst (λ b. counted_for names most key + counted_for more most key ≤ (if b then most key else 0))
      (sym (named-append key names more))
      (together (is_named same_id key names) (is_named same_id key more) (apart key)) in
      let first = sum_by-cons (counted_for names most) key keys in
      let second = sum_by-cons (counted_for more most) key keys in
      let after = sum_by-cons (counted_for (names ++ more) most) key keys in
      omega (arith, rest, one, first, second, after) where
        together : (here there : Bool) → (here && there) ≡ false
            → (if here then most key else 0) + (if there then most key else 0) ≤ (if here || there then most key else 0)
        together true true off = absurd (true≢false off)
        together true false off = omega arith
        together false true off = omega arith
        together false false off = omega arith

  -- a name that comes to a list, and under which something stands, adds what it counts
  pub sum_on : (names : List LiveId) (name : LiveId) (it : LiveInstance) (rows : List (LiveId × LiveInstance))
      → is_named same_id name names ≡ false → slot_at name rows ≡ Some it
      → sum_by (counted_for names most) (keys_of rows) + most name
      ≤ sum_by (counted_for (names ++ name ∷ []) most) (keys_of rows)
  sum_on names name it [] fresh is = absurd (none-some it is)
  sum_on names name it (row ∷ rows) fresh is =
      let before = sum_by-cons (counted_for names most) row.0 (keys_of rows) in
      let after = sum_by-cons (counted_for (names ++ name ∷ []) most) row.0 (keys_of rows) in
      let one = by_case (same_id name row.0) refl is (sum_on names name it rows fresh) in
      omega (arith, before, after, one) where
        by_case : (here : Bool) → same_id name row.0 ≡ here
            → (if here then Some row.1 else slot_at name rows) ≡ Some it
            → (slot_at name rows ≡ Some it → sum_by (counted_for names most) (keys_of rows) + most name
            ≤ sum_by (counted_for (names ++ name ∷ []) most) (keys_of rows))
            → counted_for names most row.0 + sum_by (counted_for names most) (keys_of rows) + most name
            ≤ counted_for (names ++ name ∷ []) most row.0
            + sum_by (counted_for (names ++ name ∷ []) most) (keys_of rows)
        by_case true same found rest =
            let it_is : name ≡ row.0 = same_is name row.0 same in
            let none : counted_for names most row.0 ≡ 0 =
            subst (λ (key : LiveId). counted_for names most key ≡ 0) it_is
            (ap (λ b. if b then most name else 0) fresh) in
            let some : counted_for (names ++ name ∷ []) most row.0 ≡ most name =
            subst (λ (key : LiveId). counted_for (names ++ name ∷ []) most key ≡ most name) it_is
            (ap (λ b. if b then most name else 0) (named_last name names)) in
            let others = sum_more names (name ∷ []) (keys_of rows) in
            omega (arith, none, some, others)
        by_case false same found rest =
            let others = rest found in
            let here = counted_more row.0 (is_named same_id row.0 names) (is_named same_id row.0 (names ++ name ∷ []))
            (named_first row.0 names (name ∷ [])) in
            omega (arith, others, here)
