-- Rows of inner keys with their entries, one for each key: which are on, and which go off.
use Rattle.std.proofs.Common.{subst, ◌≡◌, ℕ, zero, suc, nat_lt, Bool, true, false, not, ◌&&◌, ◌||◌, if◌then◌else◌, cond, List, [], ◌∷◌, ◌++◌, map, filter, slice_get, Some, refl, sym, ap, ◌∙◌, append-nil}
use Rattle.std.specs.Bool.{Decides, one_answer}
use Rattle.std.specs.Cmp.{IsEquivalence}
use Rattle.std.specs.List.{AllByRecursion, IsDistinct, flat_map}
use Rattle.std.specs.Map.{keys_of}
use Rattle.std.specs.Cmp.Lexicographic.{pointwise_decides}
use Rattle.std.proofs.lemmas.Map.Keys.{IsDistinct-head, IsDistinct-tail}
use Rattle.atom_record.specs.Equal.{leaf_exact}
use Rattle.bucket_meaning.specs.Guard.{is_among}
use Rattle.dim_table.specs.Table.{set_value_at}
use Rattle.predicate_state.specs.PredicateTable.{LeafKey, same_leaves}
use Rattle.metric_producer.proofs.KeysLemmas.{other_way}
use Rattle.duration_metric.specs.declared.sparse_keys.SparseEntry.{SparseEntry}
use Rattle.duration_metric.specs.SparseEntries.{entry_count}

-- Facts of each element of a list.
module _ {X : Type 0} where
  pub all_map : (P Q : X → Type 0) (xs : List X) → ((x : X) → P x → Q x) → AllByRecursion P xs → AllByRecursion Q xs
  all_map P Q [] goes all = tt
  all_map P Q (x ∷ xs) goes all = (goes x all.0, all_map P Q xs goes all.1)

  pub all_both : (P Q R : X → Type 0) (xs : List X) → ((x : X) → P x → Q x → R x) → AllByRecursion P xs
      → AllByRecursion Q xs → AllByRecursion R xs
  all_both P Q R [] goes all others = tt
  all_both P Q R (x ∷ xs) goes all others = (goes x all.0 others.0, all_both P Q R xs goes all.1 others.1)

  pub all_push : (P : X → Type 0) (xs : List X) (last : X) → AllByRecursion P xs → P last
      → AllByRecursion P (xs ++ last ∷ [])
  all_push P [] last all one = (one, tt)
  all_push P (x ∷ xs) last all one = (all.0, all_push P xs last all.1 one)

  pub all_front : (P : X → Type 0) (xs ys : List X) → AllByRecursion P (xs ++ ys) → AllByRecursion P xs
  all_front P [] ys all = tt
  all_front P (x ∷ xs) ys all = (all.0, all_front P xs ys all.1)

  chosen : (P : X → Type 0) (b : Bool) (x : X) (xs : List X) → P x → AllByRecursion P xs
      → AllByRecursion P (cond b (x ∷ xs) xs)
  chosen P true x xs one all = (one, all)
  chosen P false x xs one all = all

  pub all_filter : (P : X → Type 0) (test : X → Bool) (xs : List X) → AllByRecursion P xs
      → AllByRecursion P (filter test xs)
  all_filter P test [] all = tt
  all_filter P test (x ∷ xs) all = chosen P (test x) x (filter test xs) all.0 (all_filter P test xs all.1)

  pub all_at : (P : X → Type 0) (xs : List X) (place : ℕ) (x : X) → AllByRecursion P xs → slice_get xs place ≡ Some x
      → P x
  all_at P [] place x all at = absurd (cc)
  all_at P (first ∷ xs) zero x all at = let is : first ≡ x = cc in subst P is all.0
  all_at P (first ∷ xs) (suc place) x all at = all_at P xs place x all.1 at

-- either is false where both are
pub or_false : (one other : Bool) → (one || other) ≡ false → (one ≡ false) × (other ≡ false)
or_false true other none = absurd (cc)
or_false false other none = (refl, none)

-- one of two holds where the second does
or_later : (one other : Bool) → other ≡ true → (one || other) ≡ true
or_later true other is = refl
or_later false other is = is

-- whether two keys are the same is decided
abbrev pub same_decides : (one other : LeafKey) → Decides (same_leaves one other) (one ≡ other)
same_decides = pointwise_decides leaf_exact

-- a key is the same as itself
pub same_self : (key : LeafKey) → same_leaves key key ≡ true
same_self key = (same_decides key key).1 refl

-- being the same is an equivalence
pub leaves_equiv : IsEquivalence same_leaves
leaves_equiv = record {
  refl = same_self;
  symm = λ x y. one_answer (same_leaves x y) (same_leaves y x) (same_decides x y)
      (λ alike. sym ((same_decides y x).0 alike), λ is. (same_decides y x).1 (sym is));
  congr = λ x y z alike. ap (λ key. same_leaves key z) ((same_decides x y).0 alike);
}

-- a row of an inner key
abbrev pub Row : Type 0
Row = LeafKey × SparseEntry

-- the keys with a count above 0
abbrev pub on_keys : List (LeafKey × ℕ) → List LeafKey
on_keys counts = map (λ (entry : LeafKey × ℕ). entry.0) (filter (λ (entry : LeafKey × ℕ). nat_lt 0 entry.1) counts)

-- the rows' keys are those of their counts
pub keys_counted : (rows : List Row) → keys_of (map entry_count rows) ≡ keys_of rows
keys_counted [] = refl
keys_counted (row ∷ rows) = ap (λ ks. row.0 ∷ ks) (keys_counted rows)

-- what is so of all keys is so of the key of each row
all_rows : (P : LeafKey → Type 0) (rows : List Row) → AllByRecursion P (keys_of rows)
    → AllByRecursion (λ (row : Row). P row.0) rows
all_rows P [] all = tt
all_rows P (row ∷ rows) all = (all.0, all_rows P rows all.1)

-- each key of a list is among them
all_among : (ks : List LeafKey) → AllByRecursion (λ key. is_among same_leaves key ks ≡ true) ks
all_among [] = tt
all_among (first ∷ ks) = (
  ap (λ b. b || is_among same_leaves first ks) (same_self first),
  all_map (λ key. is_among same_leaves key ks ≡ true) (λ key. is_among same_leaves key (first ∷ ks) ≡ true) ks
      (λ key is. or_later (same_leaves first key) (is_among same_leaves key ks) is) (all_among ks),
)

-- each row's key is listed
pub rows_listed : (rows : List Row)
    → AllByRecursion (λ (row : Row). is_among same_leaves row.0 (keys_of rows) ≡ true) rows
rows_listed rows = all_rows (λ key. is_among same_leaves key (keys_of rows) ≡ true) rows (all_among (keys_of rows))

-- another key is passed by, whether it is on or not
passed : (key : LeafKey) (b : Bool) (entry : LeafKey × ℕ) (others : List (LeafKey × ℕ))
    → same_leaves entry.0 key ≡ false
    → is_among same_leaves key (map (λ (e : LeafKey × ℕ). e.0) (cond b (entry ∷ others) others))
    ≡ is_among same_leaves key (map (λ (e : LeafKey × ℕ). e.0) others)
passed key true entry others differ =
    ap (λ b. b || is_among same_leaves key (map (λ (e : LeafKey × ℕ). e.0) others)) differ
passed key false entry others differ = refl

-- a key is found where it is on, and nowhere else
own : (b : Bool) (entry : LeafKey × ℕ) (others : List (LeafKey × ℕ))
    → is_among same_leaves entry.0 (map (λ (e : LeafKey × ℕ). e.0) others) ≡ false
    → is_among same_leaves entry.0 (map (λ (e : LeafKey × ℕ). e.0) (cond b (entry ∷ others) others)) ≡ b
own true entry others none =
    ap (λ b. b || is_among same_leaves entry.0 (map (λ (e : LeafKey × ℕ). e.0) others)) (same_self entry.0)
own false entry others none = none

-- a key that isn't listed isn't on
pub off_unlisted : (key : LeafKey) (rows : List Row) → is_among same_leaves key (keys_of rows) ≡ false
    → is_among same_leaves key (on_keys (map entry_count rows)) ≡ false
off_unlisted key [] none = refl
off_unlisted key (row ∷ rows) none =
    let both = or_false (same_leaves row.0 key) (is_among same_leaves key (keys_of rows)) none in
    passed key (nat_lt 0 row.1.count) (entry_count row)
    (filter (λ (entry : LeafKey × ℕ). nat_lt 0 entry.1) (map entry_count rows)) both.0
    ∙ off_unlisted key rows both.1

-- a key that differs from all of these isn't among them
apart_from : (key : LeafKey) (ks : List LeafKey) → AllByRecursion (λ other. same_leaves key other ≡ false) ks
    → is_among same_leaves key ks ≡ false
apart_from key [] all = refl
apart_from key (first ∷ ks) all =
    ap (λ b. b || is_among same_leaves key ks) (other_way same_leaves same_decides key first all.0)
    ∙ apart_from key ks all.1

-- a row's key is on exactly where its count is above 0
pub rows_on : (rows : List Row) → IsDistinct same_leaves (keys_of rows)
    → AllByRecursion (λ (row : Row). is_among same_leaves row.0 (on_keys (map entry_count rows))
    ≡ nat_lt 0 row.1.count) rows
rows_on [] distinct = tt
rows_on (row ∷ rows) distinct =
    let apart = IsDistinct-head same_leaves row.0 (keys_of rows) distinct in
    let others = filter (λ (entry : LeafKey × ℕ). nat_lt 0 entry.1) (map entry_count rows) in (
      own (nat_lt 0 row.1.count) (entry_count row) others
          (off_unlisted row.0 rows (apart_from row.0 (keys_of rows) apart)),
      all_both (λ (other : Row). same_leaves row.0 other.0 ≡ false)
          (λ (other : Row). is_among same_leaves other.0 (on_keys (map entry_count rows)) ≡ nat_lt 0 other.1.count)
          (λ (other : Row). is_among same_leaves other.0 (on_keys (map entry_count (row ∷ rows)))
          ≡ nat_lt 0 other.1.count)
          rows (λ other differ is. passed other.0 (nat_lt 0 row.1.count) (entry_count row) others differ ∙ is)
          (all_rows (λ other. same_leaves row.0 other ≡ false) rows apart)
          (rows_on rows (IsDistinct-tail same_leaves row.0 (keys_of rows) distinct)),
    )

-- a fact of all rows, once one of them has another entry
pub all_set : (P : Row → Type 0) (rows : List Row) (place : ℕ) (row : Row) (entry : SparseEntry)
    → AllByRecursion P rows → slice_get rows place ≡ Some row → P (row.0, entry)
    → AllByRecursion P (set_value_at rows place entry)
all_set P [] place row entry all at one = tt
all_set P (first ∷ rows) zero row entry all at one =
    let is : row ≡ first = cc in (subst (λ (r : Row). P (r.0, entry)) is one, all.1)
all_set P (first ∷ rows) (suc place) row entry all at one = (all.0, all_set P rows place row entry all.1 at one)

-- the counts of rows, once one of them has another entry
pub counts_set : (rows : List Row) (place : ℕ) (entry : SparseEntry)
    → map entry_count (set_value_at rows place entry) ≡ set_value_at (map entry_count rows) place entry.count
counts_set [] place entry = refl
counts_set (row ∷ rows) zero entry = refl
counts_set (row ∷ rows) (suc place) entry = ap (λ l. entry_count row ∷ l) (counts_set rows place entry)

-- and once one has left
pub counts_left : (key : LeafKey) (rows : List Row)
    → map entry_count (filter (λ (row : Row). not (same_leaves key row.0)) rows)
    ≡ filter (λ (entry : LeafKey × ℕ). not (same_leaves key entry.0)) (map entry_count rows)
counts_left key [] = refl
counts_left key (row ∷ rows) = by (not (same_leaves key row.0)) _ _ (counts_left key rows) where
  by : (b : Bool) (left : List Row) (counts : List (LeafKey × ℕ)) → map entry_count left ≡ counts
      → map entry_count (cond b (row ∷ left) left) ≡ cond b (entry_count row ∷ counts) counts
  by true left counts is = ap (λ l. entry_count row ∷ l) is
  by false left counts is = is

-- What goes off of some rows, where `on` says which keys are on afterwards.
module _ {M : Type 0} (f : LeafKey → List M) (on : LeafKey → Bool) where
  abbrev pub brings : Row → List M
  brings row = if nat_lt 0 row.1.count && not (on row.0) then f row.0 else []

  -- the row is on as its count says
  abbrev pub IsOnAsCounted : Row → Type 0
  IsOnAsCounted row = on row.0 ≡ nat_lt 0 row.1.count

  one_gone : (counts goes : Bool) (key : LeafKey) (others : List (LeafKey × ℕ)) (count : ℕ) (rest : List M)
      → on key ≡ goes
      → flat_map f (filter (λ k. not (on k)) (map (λ (e : LeafKey × ℕ). e.0) others)) ≡ rest
      → flat_map f (filter (λ k. not (on k)) (map (λ (e : LeafKey × ℕ). e.0)
      (cond counts ((key, count) ∷ others) others)))
      ≡ (if counts && not goes then f key else []) ++ rest
  one_gone true true key others count rest goes is =
      ap (λ b. flat_map f (cond (not b) (key ∷ filter (λ k. not (on k)) (map (λ (e : LeafKey × ℕ). e.0) others))
      (filter (λ k. not (on k)) (map (λ (e : LeafKey × ℕ). e.0) others)))) goes ∙ is
  one_gone true false key others count rest goes is =
      ap (λ b. flat_map f (cond (not b) (key ∷ filter (λ k. not (on k)) (map (λ (e : LeafKey × ℕ). e.0) others))
      (filter (λ k. not (on k)) (map (λ (e : LeafKey × ℕ). e.0) others)))) goes ∙ ap (λ l. f key ++ l) is
  one_gone false goes key others count rest e is = is

  -- what the keys bring that go off is what their rows bring
  pub gone_rows : (rows : List Row)
      → flat_map f (filter (λ key. not (on key)) (on_keys (map entry_count rows))) ≡ flat_map brings rows
  gone_rows [] = refl
  gone_rows (row ∷ rows) =
      one_gone (nat_lt 0 row.1.count) (on row.0) row.0
      (filter (λ (entry : LeafKey × ℕ). nat_lt 0 entry.1) (map entry_count rows)) row.1.count _ refl (gone_rows rows)

  stays : (b : Bool) (key : LeafKey) → (if b && not b then f key else []) ≡ []
  stays true key = refl
  stays false key = refl

  -- a row that is on as its count says brings nothing
  brings_none : (row : Row) → IsOnAsCounted row → brings row ≡ []
  brings_none row is =
      ap (λ b. if nat_lt 0 row.1.count && not b then f row.0 else []) is ∙ stays (nat_lt 0 row.1.count) row.0

  -- nothing goes off where each row is on as its count says
  pub none_gone : (rows : List Row) → AllByRecursion IsOnAsCounted rows → flat_map brings rows ≡ []
  none_gone [] all = refl
  none_gone (row ∷ rows) all =
      ap (λ l. l ++ flat_map brings rows) (brings_none row all.0) ∙ none_gone rows all.1

  -- where one row gets another entry, no other goes off
  pub gone_set : (rows : List Row) (place : ℕ) (row : Row) (entry : SparseEntry)
      → AllByRecursion IsOnAsCounted (set_value_at rows place entry) → slice_get rows place ≡ Some row
      → flat_map brings rows ≡ (if nat_lt 0 row.1.count && not (nat_lt 0 entry.count) then f row.0 else [])
  gone_set [] place row entry all at = absurd (cc)
  gone_set (first ∷ rows) zero row entry all at =
      let is : first ≡ row = cc in
      ap (λ l. brings first ++ l) (none_gone rows all.1) ∙ append-nil (brings first)
      ∙ ap (λ b. if nat_lt 0 first.1.count && not b then f first.0 else []) all.0
      ∙ ap (λ (r : Row). if nat_lt 0 r.1.count && not (nat_lt 0 entry.count) then f r.0 else []) is
  gone_set (first ∷ rows) (suc place) row entry all at =
      ap (λ l. l ++ flat_map brings rows) (brings_none first all.0) ∙ gone_set rows place row entry all.1 at

  -- where all go off, each brings what its key does
  pub all_gone : (rows : List Row) → ((key : LeafKey) → on key ≡ false)
      → flat_map brings rows ≡ flat_map (λ (row : Row). if nat_lt 0 row.1.count then f row.0 else []) rows
  all_gone [] none = refl
  all_gone (row ∷ rows) none =
      ap (λ b. (if nat_lt 0 row.1.count && not b then f row.0 else []) ++ flat_map brings rows) (none row.0)
      ∙ ap (λ b. (if b then f row.0 else []) ++ flat_map brings rows) (and_true (nat_lt 0 row.1.count))
      ∙ ap (λ l. (if nat_lt 0 row.1.count then f row.0 else []) ++ l) (all_gone rows none) where
        and_true : (b : Bool) → (b && true) ≡ b
        and_true true = refl
        and_true false = refl

  -- the rows of other keys
  abbrev others : LeafKey → List Row → List Row
  others key rows = filter (λ (row : Row). not (same_leaves key row.0)) rows

  kept_rest : (key : LeafKey) (rows : List Row) → AllByRecursion (λ other. same_leaves key other ≡ false) (keys_of rows)
      → others key rows ≡ rows
  kept_rest key [] apart = refl
  kept_rest key (row ∷ rows) apart =
      ap (λ b. cond (not b) (row ∷ others key rows) (others key rows)) apart.0
      ∙ ap (λ l. row ∷ l) (kept_rest key rows apart.1)

  -- where one row leaves, no other goes off
  pub gone_left : (rows : List Row) (place : ℕ) (row : Row) → IsDistinct same_leaves (keys_of rows)
      → AllByRecursion IsOnAsCounted (others row.0 rows) → on row.0 ≡ false → slice_get rows place ≡ Some row
      → flat_map brings rows ≡ (if nat_lt 0 row.1.count then f row.0 else [])
  gone_left [] place row distinct all off at = absurd (cc)
  gone_left (first ∷ rows) zero row distinct all off at =
      let is : first ≡ row = cc in
      let apart : AllByRecursion (λ other. same_leaves row.0 other ≡ false) (keys_of rows) =
      subst (λ (r : Row). AllByRecursion (λ other. same_leaves r.0 other ≡ false) (keys_of rows)) is
      (IsDistinct-head same_leaves first.0 (keys_of rows) distinct) in
      let own_key : same_leaves row.0 first.0 ≡ true =
      (same_decides row.0 first.0).1 (ap (λ (r : Row). r.0) (sym is)) in
      let rest : others row.0 (first ∷ rows) ≡ rows =
      ap (λ b. cond (not b) (first ∷ others row.0 rows) (others row.0 rows)) own_key ∙ kept_rest row.0 rows apart in
      let off_first : on first.0 ≡ false = ap (λ (r : Row). on r.0) is ∙ off in
      ap (λ l. brings first ++ l) (none_gone rows (subst (AllByRecursion IsOnAsCounted) rest all))
      ∙ append-nil (brings first)
      ∙ ap (λ b. if nat_lt 0 first.1.count && not b then f first.0 else []) off_first
      ∙ ap (λ b. if b then f first.0 else []) (and_true (nat_lt 0 first.1.count))
      ∙ ap (λ (r : Row). if nat_lt 0 r.1.count then f r.0 else []) is where
        and_true : (b : Bool) → (b && true) ≡ b
        and_true true = refl
        and_true false = refl
  gone_left (first ∷ rows) (suc place) row distinct all off at =
      let apart_first : same_leaves first.0 row.0 ≡ false =
      all_at (λ (other : Row). same_leaves first.0 other.0 ≡ false) rows place row
      (all_rows (λ other. same_leaves first.0 other ≡ false) rows
      (IsDistinct-head same_leaves first.0 (keys_of rows) distinct)) at in
      let differ : same_leaves row.0 first.0 ≡ false = other_way same_leaves same_decides first.0 row.0 apart_first in
      let rest : others row.0 (first ∷ rows) ≡ first ∷ others row.0 rows =
      ap (λ b. cond (not b) (first ∷ others row.0 rows) (others row.0 rows)) differ in
      let both = subst (AllByRecursion IsOnAsCounted) rest all in
      ap (λ l. l ++ flat_map brings rows) (brings_none first both.0)
      ∙ gone_left rows place row (IsDistinct-tail same_leaves first.0 (keys_of rows) distinct) both.1 off at
