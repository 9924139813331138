-- The table of a part, with one more arrival of a key that finds room, or finds none.
use Rattle.std.proofs.Common.{◌≡◌, ℕ, ◌+◌, ◌-◌, ◌^◌, ◌<◌, ◌≤◌, ◌==◌, min, Bool, true, false, not, ◌||◌, if◌then◌else◌, List, [], ◌∷◌, ◌++◌, map, length, Contains, refl, sym, ap, ◌∙◌, arith, ⊎_elim, inl, inr}
use Rattle.std.specs.Map.{keys_of}
use Rattle.std.proofs.lemmas.Bool.{cases_Bool, false≢true}
use Rattle.std.proofs.lemmas.Bool.Decides.{nat_tests}
use Rattle.std.proofs.lemmas.List.{length-append, length-map}
use Rattle.atom_record.specs.declared.value.MetricKey.{MetricKey}
use Rattle.atom_record.specs.Equal.{metric_key_exact}
use Rattle.bucket_meaning.specs.Guard.{is_among, admitted, of_key, arrival_key}
use Rattle.bucket_meaning.specs.Kept.{count_in_u64}
use Rattle.bucket_meaning.proofs.GuardLemmas.{is_among-push, admitted_present, admitted_new, admitted_full, admitted_within, not_yet_come, of_key_none}
use Rattle.dim_table.specs.declared.answer.Admit.TheVariants.{At}
use Rattle.dim_table.specs.Table.{keys, Admits, IsTurnedAway}
use Rattle.dim_table.proofs.KeyLemmas.{is_among-from_Contains, not_among}
use Rattle.dim_table.proofs.RowLemmas.{rows_by, rows_by-absent}
use Rattle.metric_kinds.specs.Keys.{is_same_key}
use Rattle.metric_producer.proofs.KeysLemmas.{of_other, of_own, keys_push}
use Rattle.metric_producer.proofs.TableLemmas.{IsTabled, tabled_at, admits_bound}
use Rattle.alert_watch.specs.Windows.{Arrival, admitted_of}
use Rattle.alert_watch.specs.Watches.{KeyCounts, number_in_part, CountsPart}
use Rattle.alert_watch.specs.WindowParts.{finds_room, RaisesAt, CountsOne}

-- one more, up to the end of the type
abbrev raised_from : ℕ → ℕ
raised_from count = min (count + 1) (2 ^ 64 - 1)

raised_count : (n : ℕ) → count_in_u64 (n + 1) ≡ raised_from (count_in_u64 n)
raised_count n = omega arith

-- the table with no drops
abbrev plain : KeyCounts → KeyCounts
plain table = record table { dropped = 0 }

-- a key that finds room isn't dropped
admits_dropped : (old mid : KeyCounts) (key : MetricKey) (place : ℕ) → Admits old mid key 0 (At place)
    → mid.dropped ≡ old.dropped
admits_dropped old mid key place admits = elim admits [
  | inl there ↦ ap (λ (table : KeyCounts). table.dropped) there.same
  | inr added ↦ ap (λ (table : KeyCounts). table.dropped) added.added
]

-- it finds the same room there
admits_plain : (old mid : KeyCounts) (key : MetricKey) (place : ℕ) → Admits old mid key 0 (At place)
    → Admits (plain old) (plain mid) key 0 (At place)
admits_plain old mid key place admits = elim admits [
  | inl there ↦ inl (record { at = there.at; same = ap plain there.same })
  | inr added ↦ inr (record {
    absent = added.absent;
    room = added.room;
    last = added.last;
    added = ap plain added.added;
  })
]

-- the number of another key stays
count_other : (part : List Arrival) (key : MetricKey) (at : ℕ) (other : MetricKey) → is_same_key key other ≡ false
    → number_in_part (part ++ (key, at) ∷ []) other ≡ number_in_part part other
count_other part key at other differ =
    ap (λ (ones : List ℕ). count_in_u64 (length ones)) (of_other is_same_key part key other at differ)

-- the arrivals of the key are one more
own_length : (part : List Arrival) (key : MetricKey) (at : ℕ)
    → length (of_key is_same_key key (part ++ (key, at) ∷ [])) ≡ length (of_key is_same_key key part) + 1
own_length part key at =
    ap (λ (ones : List ℕ). length ones) (of_own is_same_key metric_key_exact part key at)
    ∙ length-append (of_key is_same_key key part) (at ∷ [])

count_own : (part : List Arrival) (key : MetricKey) (at : ℕ)
    → number_in_part (part ++ (key, at) ∷ []) key ≡ raised_from (number_in_part part key)
count_own part key at =
    ap count_in_u64 (own_length part key at) ∙ raised_count (length (of_key is_same_key key part))

count_none : (part : List Arrival) (key : MetricKey) → of_key is_same_key key part ≡ [] → number_in_part part key ≡ 0
count_none part key none = ap (λ (ones : List ℕ). count_in_u64 (length ones)) none

-- a key that has a row, old or new, whose number was raised
pub counted_at : (old mid : KeyCounts) (key : MetricKey) (place : ℕ) (new : KeyCounts) → Admits old mid key 0 (At place)
    → new.bound ≡ mid.bound
    → new.dropped ≡ mid.dropped
    → RaisesAt mid new place
    → CountsOne old new key
counted_at old mid key place new admits bound dropped raised = record {
  bound = bound ∙ admits_bound old mid key 0 place admits;
  dropped = dropped ∙ admits_dropped old mid key place admits;
  counted = λ part at is.
      let tabled : IsTabled is_same_key metric_key_exact number_in_part (plain old) part 0 =
      record { rows = is; dropped_are = refl } in
      (tabled_at is_same_key metric_key_exact number_in_part (plain old) part 0 tabled key at (count_other part key at)
      (plain mid) (plain new) 0 place raised_from (admits_plain old mid key place admits) bound
      (λ count found. ap plain (raised count found)) (count_own part key at) (count_none part key)).rows;
}

-- the keys of rows by key
keys_of-rows_by : (value_of : MetricKey → ℕ) (ks : List MetricKey) → keys_of (rows_by value_of ks) ≡ ks
keys_of-rows_by value_of [] = refl
keys_of-rows_by value_of (key ∷ ks) = ap (λ others. key ∷ others) (keys_of-rows_by value_of ks)

-- the admitted keys of a part
abbrev pub admitted_keys : ℕ → List Arrival → List MetricKey
admitted_keys bound part = admitted is_same_key bound (map arrival_key part)

-- a table has the admitted keys
pub keys_counted : (table : KeyCounts) (part : List Arrival) → CountsPart table part
    → keys table ≡ admitted_keys table.bound part
keys_counted table part is = ap keys_of is ∙ keys_of-rows_by (number_in_part part) (admitted_keys table.bound part)

rows_counted : (table : KeyCounts) (part : List Arrival) → CountsPart table part
    → length table.rows ≡ length (admitted_keys table.bound part)
rows_counted table part is =
    ap (λ (rows : List (MetricKey × ℕ)). length rows) is
    ∙ length-map (admitted_keys table.bound part) (λ key. (key, number_in_part part key))

-- whether a key finds room, by the part
room_counted : (table : KeyCounts) (part : List Arrival) (key : MetricKey) → CountsPart table part
    → finds_room key table ≡ (is_among is_same_key key (admitted_keys table.bound part)
    || not (length (admitted_keys table.bound part) == table.bound))
room_counted table part key is =
    ap (λ ks. is_among is_same_key key ks || not (length table.rows == table.bound)) (keys_counted table part is)
    ∙ ap (λ n. is_among is_same_key key (admitted_keys table.bound part) || not (n == table.bound))
    (rows_counted table part is)

-- one of two is so
one_of : (one full : Bool) → (one || not full) ≡ true → one ≡ false → full ≡ false
one_of false false some off = refl
one_of false true some off = absurd (false≢true some)
one_of true full some off = absurd (false≢true (sym off))

-- neither is
none_of : (one full : Bool) → (one || not full) ≡ false → (one ≡ false) × (full ≡ true)
none_of false true none = (refl, refl)
none_of false false none = absurd (false≢true (sym none))
none_of true full none = absurd (false≢true (sym none))

not_full : (n bound : ℕ) → n ≤ bound → (n == bound) ≡ false → n < bound
not_full n bound most differ = grind (arith, nat_tests, most, differ)

is_full : (n bound : ℕ) → (n == bound) ≡ true → bound ≤ n
is_full n bound same = grind (arith, nat_tests, same)

module _ (bound : ℕ) (part : List Arrival) (key : MetricKey) (at : ℕ) where
  abbrev old_keys : List MetricKey
  old_keys = map arrival_key part

  abbrev all : List Arrival
  all = part ++ (key, at) ∷ []

  all_keys : map arrival_key all ≡ old_keys ++ key ∷ []
  all_keys = keys_push part key at

  -- there is room for a key that isn't admitted yet
  room_left : (is_among is_same_key key (admitted_keys bound part) || not (length (admitted_keys bound part) == bound))
      ≡ true
      → is_among is_same_key key (admitted_keys bound part) ≡ false → length (admitted_keys bound part) < bound
  room_left some off = not_full (length (admitted_keys bound part)) bound (admitted_within is_same_key bound old_keys)
      (one_of (is_among is_same_key key (admitted_keys bound part)) (length (admitted_keys bound part) == bound)
      some off)

  -- a key that finds room is admitted
  pub is_admitted : (is_among is_same_key key (admitted_keys bound part)
      || not (length (admitted_keys bound part) == bound)) ≡ true
      → is_among is_same_key key (admitted_keys bound all) ≡ true
  is_admitted some = ap (λ ks. is_among is_same_key key (admitted is_same_key bound ks)) all_keys ∙ ⊎_elim
      (λ (there : is_among is_same_key key (admitted_keys bound part) ≡ true).
      ap (is_among is_same_key key) (admitted_present is_same_key bound old_keys key there) ∙ there)
      (λ (off : is_among is_same_key key (admitted_keys bound part) ≡ false).
      let own : is_same_key key key ≡ true = (metric_key_exact key key).1 refl in
      let push = is_among-push is_same_key key (admitted_keys bound part) key in
      ap (is_among is_same_key key) (admitted_new is_same_key bound old_keys key off (room_left some off))
      ∙ push ∙ ap (λ b. is_among is_same_key key (admitted_keys bound part) || b) own ∙ grind arith)
      (cases_Bool (is_among is_same_key key (admitted_keys bound part)))

  -- its arrivals so far are those that were admitted
  pub admitted_so_far : (is_among is_same_key key (admitted_keys bound part)
      || not (length (admitted_keys bound part) == bound)) ≡ true
      → admitted_of bound key part ≡ length (of_key is_same_key key part)
  admitted_so_far some = ⊎_elim
      (λ (there : is_among is_same_key key (admitted_keys bound part) ≡ true).
      ap (λ b. if b then length (of_key is_same_key key part) else 0) there)
      (λ (off : is_among is_same_key key (admitted_keys bound part) ≡ false).
      let room = room_left some off in
      let none : of_key is_same_key key part ≡ [] = of_key_none is_same_key key part
      (not_yet_come is_same_key metric_key_exact bound old_keys key room off) in
      ap (λ b. if b then length (of_key is_same_key key part) else 0) off
      ∙ sym (ap (λ (ones : List ℕ). length ones) none))
      (cases_Bool (is_among is_same_key key (admitted_keys bound part)))

  -- and with this one they are one more
  pub admitted_more : (is_among is_same_key key (admitted_keys bound part)
      || not (length (admitted_keys bound part) == bound)) ≡ true
      → admitted_of bound key all ≡ admitted_of bound key part + 1
  admitted_more some =
      ap (λ b. if b then length (of_key is_same_key key all) else 0) (is_admitted some)
      ∙ own_length part key at ∙ ap (λ n. n + 1) (sym (admitted_so_far some))

  -- a key that finds no room isn't
  pub not_admitted : (is_among is_same_key key (admitted_keys bound part)
      || not (length (admitted_keys bound part) == bound)) ≡ false
      → is_among is_same_key key (admitted_keys bound all) ≡ false
  not_admitted none =
      let both = none_of (is_among is_same_key key (admitted_keys bound part))
      (length (admitted_keys bound part) == bound) none in
      ap (λ ks. is_among is_same_key key (admitted is_same_key bound ks)) all_keys
      ∙ ap (is_among is_same_key key) (admitted_full is_same_key bound old_keys key
      (is_full (length (admitted_keys bound part)) bound both.1)) ∙ both.0

-- and leaves the table
pub turned_away : (table : KeyCounts) (part : List Arrival) (key : MetricKey) (at : ℕ) → CountsPart table part
    → finds_room key table ≡ false → CountsPart table (part ++ (key, at) ∷ [])
turned_away table part key at is none =
    let ks = admitted_keys table.bound part in
    let both = none_of (is_among is_same_key key ks) (length ks == table.bound)
    (sym (room_counted table part key is) ∙ none) in
    let absent : ¬ Contains ks key = λ there.
    false≢true (sym both.0 ∙ is_among-from_Contains is_same_key metric_key_exact ks key there) in
    let stay : admitted_keys table.bound (part ++ (key, at) ∷ []) ≡ ks =
    ap (admitted is_same_key table.bound) (keys_push part key at)
    ∙ admitted_full is_same_key table.bound (map arrival_key part) key (is_full (length ks) table.bound both.1) in
    is
    ∙ rows_by-absent is_same_key metric_key_exact (number_in_part part) (number_in_part (part ++ (key, at) ∷ [])) key
    ks absent
    (count_other part key at)
    ∙ ap (rows_by (number_in_part (part ++ (key, at) ∷ []))) (sym stay)

-- what a table says of a key that comes
pub room_is : (table : KeyCounts) (part : List Arrival) (key : MetricKey) (found : Bool) → CountsPart table part
    → finds_room key table ≡ found
    → (is_among is_same_key key (admitted_keys table.bound part)
    || not (length (admitted_keys table.bound part) == table.bound)) ≡ found
room_is table part key found is room = sym (room_counted table part key is) ∙ room

-- a key that finds room isn't turned away
pub not_away : (old new : KeyCounts) (key : MetricKey) → finds_room key old ≡ true → IsTurnedAway old new key → ⊥
not_away old new key room away =
    let off : is_among is_same_key key (keys old) ≡ false =
    not_among is_same_key metric_key_exact (keys old) key away.absent in
    let full : (length old.rows == old.bound) ≡ true = same_numbers (length old.rows) old.bound away.full in
    false≢true (sym (ap (λ b. b || not (length old.rows == old.bound)) off ∙ ap not full) ∙ room)
  where
    same_numbers : (n m : ℕ) → n ≡ m → (n == m) ≡ true
    same_numbers n m same = grind (arith, nat_tests, same)

-- what finding room is, by whether the key is there
pub room_there : (table : KeyCounts) (key : MetricKey) → Contains (keys table) key → true ≡ finds_room key table
room_there table key there =
    sym (ap (λ b. b || not (length table.rows == table.bound))
    (is_among-from_Contains is_same_key metric_key_exact (keys table) key there))

pub room_absent : (table : KeyCounts) (key : MetricKey) (len bound : ℕ) → ¬ Contains (keys table) key
    → len ≡ length table.rows → bound ≡ table.bound → not (len == bound) ≡ finds_room key table
room_absent table key len bound absent len_is bound_is =
    ap (λ n. not (n == bound)) len_is ∙ ap (λ b. not (length table.rows == b)) bound_is
    ∙ sym (ap (λ b. b || not (length table.rows == table.bound))
    (not_among is_same_key metric_key_exact (keys table) key absent))
