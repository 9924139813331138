-- The tables of a window, when parts end.
use Rattle.std.proofs.Common.{◌≡◌, ℕ, zero, suc, ◌+◌, ◌-◌, ◌<◌, ◌≤◌, List, [], ◌∷◌, ◌++◌, map, length, take, drop, replicate, get_or, set, All, sym, ap, subst, ◌∙◌, arith}
use Rattle.std.proofs.lemmas.List.{drop_more, drop_all}
use Rattle.std.proofs.lemmas.List.Elements.{All-cons, All-head, All-tail, All-take}
use Rattle.std.proofs.Math.Seq.{take-nil}
use Rattle.alert_watch.specs.Windows.{Arrival}
use Rattle.alert_watch.specs.Watches.{KeyCounts, IsPartTable, number_in_part, CountsPart, CountParts}
use Rattle.alert_watch.specs.WindowParts.{IsEmptyTable, Turns}

-- a table without rows has the numbers of a part in which nothing arrived
pub empty_counted : (table : KeyCounts) → table.rows ≡ [] → CountsPart table []
empty_counted table none = none ∙ sym (ap (map (λ key. (key, number_in_part [] key))) (take-nil table.bound))

-- the first of the tables have the numbers of the first parts
front_counted : (n : ℕ) (tables : List KeyCounts) (parts : List (List Arrival)) → CountParts tables parts
    → CountParts (take n tables) parts
front_counted zero tables parts are = tt
front_counted (suc n) [] parts are = tt
front_counted (suc n) (table ∷ tables) [] are = (are.0, front_counted n tables [] are.1)
front_counted (suc n) (table ∷ tables) (part ∷ parts) are = (are.0, front_counted n tables parts are.1)

-- tables without rows are those of parts that there aren't
pub none_counted : (bound : ℕ) (tables : List KeyCounts) → All (IsEmptyTable bound) tables → CountParts tables []
none_counted bound [] all = tt
none_counted bound (table ∷ tables) all = (
  (All-head (IsEmptyTable bound) table tables all).rows,
  none_counted bound tables (All-tail (IsEmptyTable bound) table tables all),
)

-- and the first is that of a part in which nothing arrived
pub new_counted : (bound : ℕ) (tables : List KeyCounts) → All (IsEmptyTable bound) tables → CountParts tables ([] ∷ [])
new_counted bound [] all = tt
new_counted bound (table ∷ tables) all = (
  empty_counted table (All-head (IsEmptyTable bound) table tables all).rows,
  none_counted bound tables (All-tail (IsEmptyTable bound) table tables all),
)

-- one part ended: the table that was the last is the first, without its rows
pub one_turn : (old : List KeyCounts) (last : KeyCounts) (rows_gone : KeyCounts) → rows_gone ≡ record last { rows = [] }
    → ((bound : ℕ) → All (IsPartTable bound) old → IsPartTable bound last)
    → Turns old (rows_gone ∷ take (length old - 1) old) 1
one_turn old last gone is last_is = record {
  counted = λ seen are. (
    empty_counted gone (ap (λ (table : KeyCounts). table.rows) is),
    front_counted (length old - 1) old seen are,
  );
  tables = λ bound all. All-cons (IsPartTable bound) gone (take (length old - 1) old)
      (subst (IsPartTable bound) (sym is) (record {
        has_bound = (last_is bound all).has_bound;
        no_drops = (last_is bound all).no_drops;
      }))
      (All-take (IsPartTable bound) (length old - 1) old all);
}

-- nothing ended
pub no_turn : (tables : List KeyCounts) → Turns tables tables 0
no_turn tables = record { counted = λ seen are. are; tables = λ bound all. all }

-- one part more
pub more_turns : (first mid new : List KeyCounts) (n : ℕ) → Turns first mid n → Turns mid new 1
    → Turns first new (n + 1)
more_turns first mid new n before one = record {
  counted = λ seen are. subst (λ m. CountParts new (replicate m [] ++ seen)) (one_more n)
      (one.counted (replicate n [] ++ seen) (before.counted seen are));
  tables = λ bound all. one.tables bound (before.tables bound all);
}
  where
    one_more : (m : ℕ) → suc m ≡ m + 1
    one_more m = omega arith

-- where as many parts ended as there are tables, it doesn't matter how many more did
pub all_turned : (tables : List KeyCounts) (seen : List (List Arrival)) (n : ℕ) → length tables ≤ n
    → CountParts tables (replicate (length tables) [] ++ seen) → CountParts tables (replicate n [] ++ seen)
all_turned [] seen n more are = tt
all_turned (table ∷ tables) seen zero more are = absurd (omega (arith, more))
all_turned (table ∷ tables) seen (suc n) more are =
    (are.0, all_turned tables seen n (omega (arith, more)) are.1)

-- the tables were turned by one, and the one that came first was emptied
pub turn_is : (old rotated : List KeyCounts) (first gone : KeyCounts) → 0 < length old
    → rotated ≡ drop (length old - 1) old ++ take (length old - 1) old
    → gone ≡ record (get_or rotated 0 first) { rows = [] } → Turns old (set rotated 0 gone) 1
turn_is old rotated first gone some is emptied =
    let n = length old - 1 in
    let last = get_or old n first in
    let within : n < length old = omega (arith, some) in
    let one : drop n old ≡ last ∷ [] =
    drop_more old n first within ∙ ap (λ l. last ∷ l) (drop_all (n + 1) old (omega arith)) in
    let whole : rotated ≡ last ∷ take n old = is ∙ ap (λ l. l ++ take n old) one in
    subst (λ l. Turns old (set l 0 gone) 1) (sym whole)
    (one_turn old last gone (emptied ∙ ap (λ (l : List KeyCounts). record (get_or l 0 first) { rows = [] }) whole)
    (λ bound all. all n first within))
