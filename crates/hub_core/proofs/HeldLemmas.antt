-- How many slots a client has, from change to change.
use Rattle.std.proofs.Common.{◌≡◌, ◌≢◌, ℕ, ◌+◌, ◌-◌, ◌<◌, ◌≤◌, ◌==◌, ℤ, Bool, true, false, not, cond, List, [], ◌∷◌, length, get_or, position, Option, Some, None, is_some, unwrap_or, refl, sym, ap, subst, ◌∙◌, ⊎_elim, true≢false, arith}
use Rattle.std.specs.Prelude.{◌&&◌, pos}
use Rattle.std.specs.List.{count_by}
use Rattle.std.specs.Map.{keys_of}
use Rattle.std.specs.Ordering.{int_eq}
use Rattle.std.specs.Cmp.{signed_Decides}
use Rattle.std.proofs.lemmas.Bool.{cases_Bool}
use Rattle.std.proofs.lemmas.Bool.Decides.{Decides-eqb}
use Rattle.std.proofs.lemmas.Option.{none-some, same_Some}
use Rattle.std.proofs.lemmas.List.{get_or-map, length-map}
use Rattle.std.proofs.lemmas.List.Quantifiers.{position-Some}
use Rattle.std.proofs.lemmas.List.Sums.{sum_by-cons, sum_by-swap_remove}
use Rattle.indexmap.specs.IndexMap.{insert_entry, swap_remove_entry}
use Rattle.indexmap.proofs.MapLemmas.{some_index, swap_remove_entry-found, swap_remove_entry-missing}
use Rattle.client_engine.specs.declared.live_id.LiveId.{LiveId}
use Rattle.hub_core.specs.declared.live_instance.LiveInstance.{LiveInstance}
use Rattle.hub_core.specs.Slots.{live_id, same_id, slot_at, listed_at, listed, count_at, held_by}

-- names that are the same are of one client
same_uid : (name other : LiveId) (uid : ℤ) → same_id name other ≡ true → int_eq other.uid uid ≡ int_eq name.uid uid
same_uid name other uid same = by_case (int_eq name.uid other.uid) refl same where
  by_case : (is : Bool) → int_eq name.uid other.uid ≡ is → (is && int_eq name.id other.id) ≡ true
      → int_eq other.uid uid ≡ int_eq name.uid uid
  by_case true e h = ap (λ n. int_eq n uid) (sym ((signed_Decides name.uid other.uid).0 e))
  by_case false e h = absurd (true≢false (sym h))

-- one where it is so
abbrev one_if : Bool → ℕ
one_if b = cond b 1 0

-- nothing is counted where it is not so
and_false : (b : Bool) → one_if (b && false) ≡ 0
and_false true = refl
and_false false = refl

-- and one where it is
and_true : (b : Bool) → one_if (b && true) ≡ one_if b
and_true true = refl
and_true false = refl

-- one for a row of the client
abbrev one_of : ℤ → LiveId × LiveInstance → ℕ
one_of uid row = cond (int_eq row.0.uid uid) 1 0

-- one row more in front
held-cons : (uid : ℤ) (row : LiveId × LiveInstance) (rows : List (LiveId × LiveInstance))
    → held_by uid (row ∷ rows) ≡ one_of uid row + held_by uid rows
held-cons uid row rows = sum_by-cons (one_of uid) row rows

-- what is live of an empty configuration, where some instance is asked for
pub nothing : LiveInstance
nothing = record {
  carried = record {
    name = record { uid = pos 0; id = pos 0 };
    config = [];
    instance = record {
      matchers = [];
      known = record { predicates = []; tables = [] };
      states = [];
      tracks = [];
      alerts = [];
      base = 0;
      last = 0;
    };
  };
  slots = [];
  hearing = record { ids = []; all = false };
}

module _ (uid : ℤ) (name : LiveId) where
  -- a new name adds one to its client's
  pub held-insert : (slot : LiveInstance) (rows : List (LiveId × LiveInstance))
      → held_by uid (insert_entry same_id rows name slot)
      ≡ held_by uid rows + cond (int_eq name.uid uid && not (is_some (slot_at name rows))) 1 0
  held-insert slot [] = by_case (int_eq name.uid uid) refl where
    by_case : (b : Bool) → int_eq name.uid uid ≡ b → held_by uid ((name, slot) ∷ []) ≡ 0 + cond (b && true) 1 0
    by_case true e = held-cons uid (name, slot) [] ∙ ap (λ b. cond b 1 0 + 0) e
    by_case false e = held-cons uid (name, slot) [] ∙ ap (λ b. cond b 1 0 + 0) e
  held-insert slot (row ∷ rows) = by_case (same_id name row.0) (held-insert slot rows) where
    by_case : (same : Bool) → held_by uid (insert_entry same_id rows name slot)
        ≡ held_by uid rows + cond (int_eq name.uid uid && not (is_some (slot_at name rows))) 1 0
        → held_by uid (cond same ((row.0, slot) ∷ rows) (row ∷ insert_entry same_id rows name slot))
        ≡ held_by uid (row ∷ rows) + cond (int_eq name.uid uid && not (is_some (cond same (Some row.1)
        (slot_at name rows)))) 1 0
    by_case true rest =
        omega (arith, held-cons uid (row.0, slot) rows, held-cons uid row rows, and_false (int_eq name.uid uid))
    by_case false rest = omega (
      arith,
      held-cons uid row
          (insert_entry same_id rows name slot),
      held-cons uid row rows,
      rest,
    )

  -- a name that is taken out takes one from its client's
  pub held-swap_remove : (rows : List (LiveId × LiveInstance))
      → held_by uid (swap_remove_entry (same_id name) rows) + cond (int_eq name.uid uid && is_some
      (slot_at name rows)) 1 0 ≡ held_by uid rows
  held-swap_remove rows = by_place (position (same_id name) (keys_of rows)) refl where
    by_place : (place : Option ℕ) → position (same_id name) (keys_of rows) ≡ place
        → held_by uid (swap_remove_entry (same_id name) rows) + cond (int_eq name.uid uid && is_some
        (slot_at name rows)) 1 0 ≡ held_by uid rows
    by_place None e =
        let absent : is_some (slot_at name rows) ≡ false = sym (some_index (same_id name) rows) ∙ ap is_some e in
        let less : one_if (int_eq name.uid uid && is_some (slot_at name rows))
        ≡ 0 = ap (λ b. one_if (int_eq name.uid uid && b)) absent ∙ and_false (int_eq name.uid uid) in
        omega (arith, less, ap (held_by uid) (swap_remove_entry-missing (same_id name) rows e))
    by_place (Some i) e =
        let d : LiveId × LiveInstance = (name, nothing) in
        let there : is_some (slot_at name rows) ≡ true = sym (some_index (same_id name) rows) ∙ ap is_some e in
        let at = position-Some (same_id name) (keys_of rows) i name e in
        let within : i < length rows = omega (
          arith,
          at.0,
          length-map rows (λ
              (row : LiveId × LiveInstance). row.0),
        ) in
        let key : get_or (keys_of rows) i name ≡ (get_or rows i d).0 = get_or-map (λ
        (row : LiveId × LiveInstance). row.0) rows i d name within in
        let one : one_of uid (get_or rows i d) ≡ one_if (int_eq name.uid uid) =
        ap one_if (same_uid name (get_or rows i d).0 uid (ap (same_id name) (sym key) ∙ at.1)) in
        let more : one_if (int_eq name.uid uid && is_some (slot_at name rows))
        ≡ one_if (int_eq name.uid uid) = ap (λ b. one_if (int_eq name.uid uid && b)) there
        ∙ and_true (int_eq name.uid uid) in
        omega (
          arith,
          more,
          one,
          ap (held_by uid) (swap_remove_entry-found
              (same_id name) rows i d e),
          sum_by-swap_remove (one_of uid) rows i d within,
        )

-- a client that has a slot has one at least
pub held-found : (name : LiveId) (rows : List (LiveId × LiveInstance)) → is_some (slot_at name rows) ≡ true
    → 0 < held_by name.uid rows
held-found name [] there = absurd (true≢false (sym there))
held-found name (row ∷ rows) there = by_case (same_id name row.0) refl there (held-found name rows) where
  by_case : (same : Bool) → same_id name row.0 ≡ same → is_some (cond same (Some row.1) (slot_at name rows)) ≡ true
      → (is_some (slot_at name rows) ≡ true → 0 < held_by name.uid rows) → 0 < held_by name.uid (row ∷ rows)
  by_case true e h rest =
      let one : one_of name.uid row ≡ 1 = ap (λ b. cond b 1 0) (same_uid name row.0 name.uid e
      ∙ (signed_Decides name.uid name.uid).1 refl) in
      omega (arith, held-cons name.uid row rows, one)
  by_case false e h rest = omega (arith, held-cons name.uid row rows, rest h)

-- the number hangs on the names alone
pub held-names : (uid : ℤ) (rows : List (LiveId × LiveInstance))
    → held_by uid rows ≡ count_by (λ (name : LiveId). int_eq name.uid uid) (keys_of rows)
held-names uid [] = refl
held-names uid (row ∷ rows) =
    let rest = held-names uid rows in
    let one = sum_by-cons (λ (name : LiveId). cond (int_eq name.uid uid) 1 0) row.0 (keys_of rows) in
    omega (arith, held-cons uid row rows, rest, one)

-- and stays with them
pub held-kept : (uid : ℤ) (olds news : List (LiveId × LiveInstance)) → keys_of news ≡ keys_of olds
    → held_by uid news ≡ held_by uid olds
held-kept uid olds news same =
    held-names uid news ∙ ap (count_by (λ (name : LiveId). int_eq name.uid uid)) same ∙ sym (held-names uid olds)

-- both facts of one client
abbrev IsCounted : ℤ → List (LiveId × LiveInstance) → List (ℤ × ℕ) → Type 0
IsCounted n rows counts = (held_by n rows ≡ count_at n counts) × (held_by n rows ≤ 10)

module _ (uid id : ℤ) (olds news : List (LiveId × LiveInstance)) (counts afters : List (ℤ × ℕ)) (others : ℕ)
    (counted : (n : ℤ) → held_by n olds ≡ count_at n counts) (few : (n : ℤ) → held_by n olds ≤ 10) where
  -- an install that had room
  pub counted_put : ((n : ℤ) → held_by n news ≡ held_by n olds + cond (int_eq uid n && not (is_some (slot_at
      (live_id uid id) olds))) 1 0)
      → ((n : ℤ) → count_at n afters ≡ cond (int_eq uid n) (others + 1) (count_at n counts))
      → others ≡ count_at uid counts - one_if (is_some (slot_at (live_id uid id) olds)) → others < 10 → (n : ℤ)
      → IsCounted n news afters
  counted_put held set is room n = by_case (int_eq uid n) refl (held n) (set n) where
    at_uid : (there : Bool) → is_some (slot_at (live_id uid id) olds) ≡ there
        → held_by uid news ≡ held_by uid olds + one_if (not there) → count_at uid afters ≡ others + 1
        → IsCounted uid news afters
    at_uid true e h s =
        let found = held-found (live_id uid id) olds e in
        let rest : others ≡ count_at uid counts - 1 = is ∙ ap (λ b. count_at uid counts - one_if b) e in
        (omega (arith, found, rest, h, s, counted uid, few uid), omega (arith, h, few uid))
    at_uid false e h s =
        let rest : others ≡ count_at uid counts - 0 = is ∙ ap (λ b. count_at uid counts - one_if b) e in
        (omega (arith, rest, h, s, counted uid), omega (arith, rest, room, h, counted uid))

    by_case : (same : Bool) → int_eq uid n ≡ same → held_by n news
        ≡ held_by n olds + cond (same && not (is_some (slot_at (live_id uid id) olds))) 1 0
        → count_at n afters ≡ cond same (others + 1) (count_at n counts) → IsCounted n news afters
    by_case true e h s =
        let own : uid ≡ n = (signed_Decides uid n).0 e in
        subst (λ m. IsCounted m news afters) own (at_uid (is_some (slot_at (live_id uid id) olds)) refl
        (subst (λ m. held_by m news ≡ held_by m olds + one_if (not (is_some (slot_at (live_id uid id) olds))))
        (sym own) h) (subst (λ m. count_at m afters ≡ others + 1) (sym own) s))
    by_case false e h s = (omega (arith, h, s, counted n), omega (arith, h, few n))

  -- a remove of what was there
  pub counted_take_out : is_some (slot_at (live_id uid id) olds) ≡ true → ((n : ℤ)
      → held_by n news + cond (int_eq uid n && is_some (slot_at (live_id uid id) olds)) 1 0 ≡ held_by n olds)
      → ((n : ℤ) → count_at n afters ≡ cond (int_eq uid n) others (count_at n counts))
      → others ≡ count_at uid counts - 1 → (n : ℤ) → IsCounted n news afters
  counted_take_out there held set is n = by_case (int_eq uid n) refl (ap (λ b. held_by n news + one_if
      (int_eq uid n && b)) (sym there) ∙ held n) (set n) where
        by_case : (same : Bool) → int_eq uid n ≡ same → held_by n news + one_if (same && true) ≡ held_by n olds
            → count_at n afters ≡ cond same others (count_at n counts) → IsCounted n news afters
        by_case true e h s =
            let own : count_at uid counts ≡ count_at n counts =
            ap (λ m. count_at m counts) ((signed_Decides uid n).0 e) in
            (omega (arith, h, s, is, own, counted n), omega (arith, h, few n))
        by_case false e h s = (omega (arith, h, s, counted n), omega (arith, h, few n))

-- a number is what is listed of it, and 0 where nothing is
listed-count : (count : ℕ) → unwrap_or (listed count) 0 ≡ count
listed-count count = ⊎_elim
    (λ (none : (count == 0) ≡ true).
    ap (λ b. unwrap_or (cond b None (Some count)) 0) none ∙ sym ((Decides-eqb count 0).0 none))
    (λ (some : (count == 0) ≡ false). ap (λ b. unwrap_or (cond b None (Some count)) 0) some)
    (cases_Bool (count == 0))

-- 0 is not listed
listed-above : (count : ℕ) → listed count ≢ Some 0
listed-above count is = ⊎_elim
    (λ (none : (count == 0) ≡ true). none-some 0 (sym (ap (λ b. cond b None (Some count)) none) ∙ is))
    (λ (some : (count == 0) ≡ false).
    true≢false (sym ((Decides-eqb count 0).1 (same_Some count 0 (sym (ap (λ b. cond b None (Some count)) some) ∙ is)))
    ∙ some))
    (cases_Bool (count == 0))

module _ (uid : ℤ) (count : ℕ) (olds news : List (ℤ × ℕ))
    (set : (n : ℤ) → listed_at n news ≡ cond (int_eq uid n) (listed count) (listed_at n olds)) where
  -- the counts, where one is set
  pub counts_set : (n : ℤ) → count_at n news ≡ cond (int_eq uid n) count (count_at n olds)
  counts_set n = ap (λ o. unwrap_or o 0) (set n) ∙ by_case (int_eq uid n) where
    by_case : (own : Bool) → unwrap_or (cond own (listed count) (listed_at n olds)) 0 ≡ cond own count (count_at n olds)
    by_case true = listed-count count
    by_case false = refl

  -- no client is listed with 0, where none was
  pub above_set : ((n : ℤ) → listed_at n olds ≢ Some 0) → (n : ℤ) → listed_at n news ≢ Some 0
  above_set above n is = by_case (int_eq uid n) (sym (set n) ∙ is) where
    by_case : (own : Bool) → cond own (listed count) (listed_at n olds) ≡ Some 0 → ⊥
    by_case true zero = listed-above count zero
    by_case false zero = above n zero
