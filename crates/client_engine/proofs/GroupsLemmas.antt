-- The groups of rows, one more row at a time.
use Rattle.std.proofs.Common.{◌≡◌, ℕ, zero, suc, Bool, true, false, if◌then◌else◌, List, [], ◌∷◌, ◌++◌, map, filter, slice_get, Some, None, length, ◌<◌, position, refl, sym, ap, subst, ◌∙◌, arith, ⊎_elim}
use Rattle.std.specs.Bool.{Decides}
use Rattle.std.specs.List.{IsDistinct}
use Rattle.std.specs.Map.{keys_of, values_of}
use Rattle.std.proofs.lemmas.Bool.{cases_Bool}
use Rattle.std.proofs.lemmas.List.{append-nil, map-append, take_all}
use Rattle.std.proofs.lemmas.Map.Keys.{IsDistinct-head, IsDistinct-tail}
use Rattle.indexmap.specs.Layout.{set_value_at}
use Rattle.bucket_meaning.specs.Guard.{is_among, firsts, with_key, admitted}
use Rattle.bucket_meaning.proofs.GuardLemmas.{firsts-push, firsts-distinct, not_yet_come}
use Rattle.dim_table.proofs.KeyLemmas.{Contains-from_place, is_among-from_Contains, not_among, found, missing}
use Rattle.metric_producer.specs.declared.row.Row.{Row}
use Rattle.metric_producer.proofs.KeysLemmas.{other_way, differs_from_all, differs_from_one}
use Rattle.metric_meaning.specs.KeyTrees.{group_by, groups_by}
use Rattle.client_engine.specs.Groups.{groups_in_order, buckets_of, entry_in, grouped, AddsRow, group_tree}

-- By any test that decides whether two groups are the same: `group` tells the group of a row, and `bucket` shows a row.
module _ {V G B : Type 0} (same : G → G → Bool) (exact : (x y : G) → Decides (same x y) (x ≡ y)) (group : Row V → G)
    (bucket : Row V → B) where
  -- each group once, in order
  abbrev in_order : List (Row V) → List G
  in_order = groups_in_order same group bucket

  -- the buckets of a group
  abbrev its_buckets : List (Row V) → G → List B
  its_buckets = buckets_of same group bucket

  -- a group with its buckets
  abbrev entry_of : List (Row V) → G → G × List B
  entry_of = entry_in same group bucket

  -- the rows of one group, with one more row
  rows-push : (key : G) (rows : List (Row V)) (row : Row V)
      → filter (λ (r : Row V). same (group r) key) (rows ++ row ∷ [])
      ≡ filter (λ (r : Row V). same (group r) key) rows ++ (if same (group row) key then row ∷ [] else [])
  rows-push key [] row = refl
  rows-push key (first ∷ rows) row = ⊎_elim
      (λ (own : same (group first) key ≡ true).
      ap (λ b. if b then first ∷ filter (λ (r : Row V). same (group r) key) (rows ++ row ∷ [])
      else filter (λ (r : Row V). same (group r) key) (rows ++ row ∷ [])) own
      ∙ ap (λ l. first ∷ l) (rows-push key rows row)
      ∙ ap (λ b. (if b then first ∷ filter (λ (r : Row V). same (group r) key) rows
      else filter (λ (r : Row V). same (group r) key) rows)
      ++ (if same (group row) key then row ∷ [] else [])) (sym own))
      (λ (other : same (group first) key ≡ false).
      ap (λ b. if b then first ∷ filter (λ (r : Row V). same (group r) key) (rows ++ row ∷ [])
      else filter (λ (r : Row V). same (group r) key) (rows ++ row ∷ [])) other
      ∙ rows-push key rows row
      ∙ ap (λ b. (if b then first ∷ filter (λ (r : Row V). same (group r) key) rows
      else filter (λ (r : Row V). same (group r) key) rows)
      ++ (if same (group row) key then row ∷ [] else [])) (sym other))
      (cases_Bool (same (group first) key))

  -- the first groups, with one more row
  groups_in_order-push : (rows : List (Row V)) (row : Row V)
      → in_order (rows ++ row ∷ []) ≡ with_key same (in_order rows) (group row)
  groups_in_order-push rows row =
      ap (firsts same []) (map-append group rows (row ∷ []))
      ∙ firsts-push same [] (map group rows) (group row)

  -- groups are apart
  groups_in_order-distinct : (rows : List (Row V)) → IsDistinct same (in_order rows)
  unfolding IsDistinct
  groups_in_order-distinct rows = firsts-distinct same [] (map group rows) tt

  -- a group that isn't among the first groups is that of no row
  none_of_key : (rows : List (Row V)) (key : G) → is_among same key (map group rows) ≡ false
      → filter (λ (r : Row V). same (group r) key) rows ≡ []
  none_of_key [] key absent = refl
  none_of_key (first ∷ rows) key absent =
      let other : same (group first) key ≡ false = grind arith in
      ap (λ b. if b then first ∷ filter (λ (r : Row V). same (group r) key) rows
      else filter (λ (r : Row V). same (group r) key) rows) other
      ∙ none_of_key rows key (grind arith)

  -- no row has a group that isn't among the first groups
  not_come : (rows : List (Row V)) (key : G) → is_among same key (in_order rows) ≡ false
      → is_among same key (map group rows) ≡ false
  not_come rows key absent =
      let bound = suc (length (in_order rows)) in
      let whole : admitted same bound (map group rows) ≡ in_order rows =
      take_all bound (in_order rows) (omega arith) in
      not_yet_come same exact bound (map group rows) key
      (subst (λ ks. length ks < bound) (sym whole) (omega arith))
      (subst (λ ks. is_among same key ks ≡ false) (sym whole) absent)

  -- the buckets of another group stay
  entry_other : (rows : List (Row V)) (row : Row V) (other : G) → same other (group row) ≡ false
      → entry_of (rows ++ row ∷ []) other ≡ entry_of rows other
  entry_other rows row other differ =
      ap (λ l. (other, map bucket l))
      (rows-push other rows row
      ∙ ap (λ b. filter (λ (r : Row V). same (group r) other) rows ++ (if b then row ∷ [] else []))
      (other_way same exact other (group row) differ)
      ∙ append-nil (filter (λ (r : Row V). same (group r) other) rows))

  -- the row's own group has a bucket more
  entry_own : (rows : List (Row V)) (row : Row V)
      → entry_of (rows ++ row ∷ []) (group row) ≡ (group row, its_buckets rows (group row) ++ bucket row ∷ [])
  entry_own rows row =
      let self : same (group row) (group row) ≡ true = (exact (group row) (group row)).1 refl in
      ap (λ l. (group row, map bucket l))
      (rows-push (group row) rows row
      ∙ ap (λ b. filter (λ (r : Row V). same (group r) (group row)) rows ++ (if b then row ∷ [] else [])) self)
      ∙ ap (λ l. (group row, l)) (map-append bucket (filter (λ (r : Row V). same (group r) (group row)) rows)
      (row ∷ []))

  -- the buckets of other groups stay
  entries_other : (rows : List (Row V)) (row : Row V) (ks : List G) → is_among same (group row) ks ≡ false
      → map (entry_of (rows ++ row ∷ [])) ks ≡ map (entry_of rows) ks
  entries_other rows row [] absent = refl
  entries_other rows row (first ∷ ks) absent =
      let here : same first (group row) ≡ false = grind arith in
      let later : is_among same (group row) ks ≡ false = grind arith in
      ap (λ entry. entry ∷ map (entry_of (rows ++ row ∷ [])) ks) (entry_other rows row first here)
      ∙ ap (λ entries. entry_of rows first ∷ entries) (entries_other rows row ks later)

  -- the buckets at the place of a group
  buckets_there : (rows : List (Row V)) (key : G) (ks : List G) (place : ℕ)
      → slice_get ks place ≡ Some key
      → slice_get (values_of (map (entry_of rows) ks)) place ≡ Some (its_buckets rows key)
  buckets_there rows key [] place at = absurd (cc)
  buckets_there rows key (first ∷ ks) zero at =
      let is : first ≡ key = cc in ap (λ k. Some (its_buckets rows k)) is
  buckets_there rows key (first ∷ ks) (suc place) at = buckets_there rows key ks place at

  -- where the group at a place has a bucket more, the groups have one more row of it
  added_there : (rows : List (Row V)) (row : Row V) (ks : List G) (place : ℕ) → IsDistinct same ks
      → slice_get ks place ≡ Some (group row)
      → set_value_at (map (entry_of rows) ks) place (its_buckets rows (group row) ++ bucket row ∷ [])
      ≡ map (entry_of (rows ++ row ∷ [])) ks
  added_there rows row [] place distinct at = absurd (cc)
  added_there rows row (first ∷ ks) zero distinct at =
      let is : first ≡ (group row) = cc in
      let absent : is_among same (group row) ks ≡ false =
      subst (λ k. is_among same k ks ≡ false) is
      (differs_from_all same exact first ks (IsDistinct-head same first ks distinct)) in
      ap (λ k. (k, its_buckets rows (group row) ++ bucket row ∷ []) ∷ map (entry_of rows) ks) is
      ∙ ap (λ entry. entry ∷ map (entry_of rows) ks) (sym (entry_own rows row))
      ∙ ap (λ k. entry_of (rows ++ row ∷ []) k ∷ map (entry_of rows) ks) (sym is)
      ∙ ap (λ entries. entry_of (rows ++ row ∷ []) first ∷ entries) (sym (entries_other rows row ks absent))
  added_there rows row (first ∷ ks) (suc place) distinct at =
      let differ : same first (group row) ≡ false =
      differs_from_one same first (group row) ks place (IsDistinct-head same first ks distinct) at in
      ap (λ entry. entry ∷ set_value_at (map (entry_of rows) ks) place
      (its_buckets rows (group row) ++ bucket row ∷ [])) (sym (entry_other rows row first differ))
      ∙ ap (λ entries. entry_of (rows ++ row ∷ []) first ∷ entries)
      (added_there rows row ks place (IsDistinct-tail same first ks distinct) at)

  -- the groups
  keys_of_entries : (rows : List (Row V)) (ks : List G) → keys_of (map (entry_of rows) ks) ≡ ks
  keys_of_entries rows [] = refl
  keys_of_entries rows (key ∷ ks) = ap (λ others. key ∷ others) (keys_of_entries rows ks)

  -- a bucket more at the place of a row's group
  pub adds_there : (old new : List (G × List B)) (row : Row V) (place : ℕ)
      → position (same (group row)) (keys_of old) ≡ Some place
      → ((buckets : List B) → slice_get (values_of old) place ≡ Some buckets
      → new ≡ set_value_at old place (buckets ++ bucket row ∷ []))
      → AddsRow same group bucket old new row
  adds_there old new row place at added rows is =
      let ks = in_order rows in
      let own : keys_of old ≡ ks = ap keys_of is ∙ keys_of_entries rows ks in
      let there : slice_get ks place ≡ Some (group row) =
      found same exact ks (group row) place
      (subst (λ l. position (same (group row)) l ≡ Some place) own at) in
      let among : is_among same (group row) ks ≡ true =
      is_among-from_Contains same exact ks (group row) (Contains-from_place ks place (group row) there) in
      let stays : in_order (rows ++ row ∷ []) ≡ ks =
      groups_in_order-push rows row ∙ ap (λ b. if b then ks else ks ++ (group row) ∷ []) among in
      added (its_buckets rows (group row))
      (subst (λ entries. slice_get (values_of entries) place ≡ Some (its_buckets rows (group row))) (sym is)
      (buckets_there rows (group row) ks place there))
      ∙ ap (λ entries. set_value_at entries place (its_buckets rows (group row) ++ bucket row ∷ [])) is
      ∙ added_there rows row ks place (groups_in_order-distinct rows) there
      ∙ ap (map (entry_of (rows ++ row ∷ []))) (sym stays)

  -- a new group with its first bucket
  pub adds_new : (old new : List (G × List B)) (row : Row V)
      → position (same (group row)) (keys_of old) ≡ None
      → new ≡ old ++ (group row, bucket row ∷ []) ∷ []
      → AddsRow same group bucket old new row
  adds_new old new row nowhere added rows is =
      let ks = in_order rows in
      let own : keys_of old ≡ ks = ap keys_of is ∙ keys_of_entries rows ks in
      let absent : is_among same (group row) ks ≡ false =
      not_among same exact ks (group row)
      (missing same exact ks (group row)
      (subst (λ l. position (same (group row)) l ≡ None) own nowhere)) in
      let none : filter (λ (r : Row V). same (group r) (group row)) rows ≡ [] =
      none_of_key rows (group row) (not_come rows (group row) absent) in
      let grows : in_order (rows ++ row ∷ []) ≡ ks ++ (group row) ∷ [] =
      groups_in_order-push rows row ∙ ap (λ b. if b then ks else ks ++ (group row) ∷ []) absent in
      let fresh : entry_of (rows ++ row ∷ []) (group row) ≡ (group row, bucket row ∷ []) =
      entry_own rows row ∙ ap (λ l. (group row, map bucket l ++ bucket row ∷ [])) none in
      added ∙ ap (λ l. l ++ (group row, bucket row ∷ []) ∷ []) is
      ∙ ap (λ l. l ++ (group row, bucket row ∷ []) ∷ []) (sym (entries_other rows row ks absent))
      ∙ ap (λ entry. map (entry_of (rows ++ row ∷ [])) ks ++ entry ∷ []) (sym fresh)
      ∙ sym (map-append (entry_of (rows ++ row ∷ [])) ks ((group row) ∷ []))
      ∙ ap (map (entry_of (rows ++ row ∷ []))) (sym grows)

-- `tree` shows a group with its buckets.
module _ {V G B T : Type 0} (same : G → G → Bool) (group : Row V → G) (tree : G → List B → T) (bucket : Row V → B) where
  -- the groups, shown one by one
  map_groups : (rows : List (Row V)) (ks : List G)
      → map (group_tree tree) (map (entry_in same group bucket rows) ks) ≡ map (group_by same group tree bucket rows) ks
  map_groups rows [] = refl
  map_groups rows (one ∷ ks) =
      ap (λ l. group_tree tree (entry_in same group bucket rows one) ∷ l) (map_groups rows ks)

  -- the groups are those of a report
  pub groups_shown : (rows : List (Row V))
      → map (group_tree tree) (grouped same group bucket rows) ≡ groups_by same group tree bucket rows
  groups_shown rows = map_groups rows (groups_in_order same group bucket rows)
