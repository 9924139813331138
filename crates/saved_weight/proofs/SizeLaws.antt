-- How many bytes items take at most, part by part: lemmas on `flat_form`, for the proofs of kinds.
use Rattle.std.proofs.Common.{◌≡◌, ℕ, ◌+◌, ◌≤◌, List, [], ◌∷◌, ◌++◌, map, length, Some, None, refl, ap, ◌∙◌, arith}
use Rattle.std.specs.List.{flat_map, sum_by}
use Rattle.std.proofs.lemmas.List.Sums.{sum_by-cons}
use Rattle.atom_record.specs.declared.atom.Atom.{Atom}
use Rattle.atom_record.specs.declared.value.Leaf.{Leaf}
use Rattle.atom_record.specs.declared.value.MetricKey.{MetricKey}
use Rattle.dim_table.specs.Table.{Table}
use Rattle.dim_table.specs.TableItems.{table_items}
use Rattle.flat_form.specs.declared.item.Item.{Item}
use Rattle.flat_form.specs.declared.item.Item.TheVariants.{Num, Dims, Slices, AtomItem}
use Rattle.flat_form.specs.Bounded.{held-append, own_sizes-append}
use Rattle.flat_form.specs.Flat.{number_items, option_items, dims_items, key_items, atom_items, pair_items, list_items}
use Rattle.flat_form.specs.Weight.{held_weight, held, own_size, own_sizes}
use Rattle.kept_rows.specs.KeptItems.{kept_items}
use Rattle.kept_rows.specs.KeptRows.{Keeping}
use Rattle.metric_producer.specs.declared.row.Row.{Row}
use Rattle.metric_producer.specs.RowItems.{row_items}
use Rattle.saved_weight.specs.Entries.{leaves_weight, key_weight, atom_weight}

-- the bytes of items at most: their own, and what they hold
abbrev pub full_size : List Item → ℕ
full_size items = own_sizes items + held items

-- an item and others
pub full-cons : (item : Item) (items : List Item)
    → full_size (item ∷ items) ≡ own_size item + held_weight item + full_size items
full-cons item items =
    let own = sum_by-cons own_size item items in let holds = sum_by-cons held_weight item items in omega arith

-- a number and others
pub full-number : (number : ℕ) (items : List Item) → full_size (Num number ∷ items) ≡ 9 + full_size items
full-number number items = let all = full-cons (Num number) items in omega arith

-- two parts
pub full-append : (x y : List Item) → full_size (x ++ y) ≡ full_size x + full_size y
full-append x y = let own = own_sizes-append x y in let holds = held-append x y in omega arith

-- elements, one by one
pub full-flat_map : {X : Type 0} (flat : X → List Item) (xs : List X)
    → full_size (flat_map flat xs) ≡ sum_by (λ x. full_size (flat x)) xs
full-flat_map flat [] = omega arith
full-flat_map flat (x ∷ xs) =
    let rest = full-flat_map flat xs in
    let sum = sum_by-cons (λ x. full_size (flat x)) x xs in
    let parts = full-append (flat x) (flat_map flat xs) in
    omega arith

-- a list is a number and its elements
pub full-list : {X : Type 0} (flat : X → List Item) (xs : List X)
    → full_size (list_items flat xs) ≡ 9 + sum_by (λ x. full_size (flat x)) xs
full-list flat xs =
    let all = full-number (length xs) (flat_map flat xs) in let parts = full-flat_map flat xs in omega arith

-- a number alone
pub full-one : (number : ℕ) → full_size (number_items number) ≡ 9
full-one number = omega arith

-- a key of leaves
pub full-dims : (dims : List Leaf) → full_size (dims_items dims) ≡ 3 + leaves_weight dims
full-dims dims = let all = full-cons (Dims dims) [] in omega arith

-- a metric's key
pub full-key : (key : MetricKey) → full_size (key_items key) ≡ 5 + key_weight key
full-key key =
    let all = full-cons (Dims key.dims) (Slices key.slices ∷ []) in
    let slices = full-cons (Slices key.slices) [] in
    omega arith

-- an atom
pub full-atom : (atom : Atom) → full_size (atom_items atom) ≡ 7 + atom_weight atom
full-atom atom = let all = full-cons (AtomItem atom) [] in omega arith

-- a value that may be missing
pub full-none : {X : Type 0} (flat : X → List Item) → full_size (option_items flat None) ≡ 9
full-none flat = omega arith

pub full-some : {X : Type 0} (flat : X → List Item) (value : X)
    → full_size (option_items flat (Some value)) ≡ 9 + full_size (flat value)
full-some flat value =
    let all = full-list flat (value ∷ []) in let sum = sum_by-cons (λ x. full_size (flat x)) value [] in omega arith

-- a table is three numbers and its rows
pub full-table : {K V : Type 0} (key_flat : K → List Item) (value_flat : V → List Item) (table : Table K V)
    → full_size (table_items key_flat value_flat table)
    ≡ 27 + sum_by (λ row. full_size (pair_items key_flat value_flat row)) table.rows
full-table key_flat value_flat table =
    let rows = flat_map (pair_items key_flat value_flat) table.rows in
    let bound = full-number table.bound (Num table.dropped ∷ Num (length table.rows) ∷ rows) in
    let dropped = full-number table.dropped (Num (length table.rows) ∷ rows) in
    let count = full-number (length table.rows) rows in
    let each = full-flat_map (pair_items key_flat value_flat) table.rows in
    omega arith

-- kept rows are three numbers and the rows
pub full-kept : {R : Type 0} (flat : R → List Item) (it : Keeping R)
    → full_size (kept_items flat it) ≡ 27 + sum_by (λ row. full_size (flat row)) it.rows
full-kept flat it =
    let used = full-number it.used (Num it.others ∷ list_items flat it.rows) in
    let others = full-number it.others (list_items flat it.rows) in
    let rows = full-list flat it.rows in
    omega arith

-- a row is its key, two numbers and its value
pub full-row : {V : Type 0} (flat : V → List Item) (row : Row V)
    → full_size (row_items flat row) ≡ 23 + key_weight row.key + full_size (flat row.value)
full-row flat row =
    let numbers : List Item = Num row.start ∷ Num row.end ∷ flat row.value in
    let dims = full-cons (Dims row.key.dims) (Slices row.key.slices ∷ numbers) in
    let slices = full-cons (Slices row.key.slices) numbers in
    let start = full-number row.start (Num row.end ∷ flat row.value) in
    let end = full-number row.end (flat row.value) in
    omega arith

-- a sum over what elements give
pub sum_by-map : {X Y : Type 0} (f : Y → ℕ) (g : X → Y) (xs : List X)
    → sum_by f (map g xs) ≡ sum_by (λ x. f (g x)) xs
sum_by-map f g [] = refl
sum_by-map f g (x ∷ xs) =
    let rest = sum_by-map f g xs in
    let one = sum_by-cons f (g x) (map g xs) in
    let other = sum_by-cons (λ x. f (g x)) x xs in
    omega arith

-- elements that take no more than they weigh
pub each_within : {X : Type 0} (size weight : X → ℕ) (xs : List X) → ((x : X) → size x ≤ weight x)
    → sum_by size xs ≤ sum_by weight xs
each_within size weight [] each = omega arith
each_within size weight (x ∷ xs) each =
    let rest = each_within size weight xs each in
    let here = each x in
    let one = sum_by-cons size x xs in
    let other = sum_by-cons weight x xs in
    omega arith

-- a table whose rows are those of some keys, each with what it has by the key
pub table_within : {K V : Type 0} (key_flat : K → List Item) (value_flat : V → List Item) (table : Table K V)
    (row_of : K → K × V) (weight : K → ℕ) (keys : List K) → table.rows ≡ map row_of keys
    → ((key : K) → full_size (pair_items key_flat value_flat (row_of key)) ≤ weight key)
    → full_size (table_items key_flat value_flat table) ≤ 27 + sum_by weight keys
table_within {K = K} {V = V} key_flat value_flat table row_of weight keys are each =
    let all = full-table key_flat value_flat table in
    let size : K × V → ℕ = λ row. full_size (pair_items key_flat value_flat row) in
    let by_keys : sum_by size table.rows ≡ sum_by (λ key. size (row_of key)) keys =
    ap (sum_by size) are ∙ sum_by-map size row_of keys in
    let less = each_within (λ key. size (row_of key)) weight keys each in
    omega (arith, all, by_keys, less)

-- kept rows that are these
pub kept_within : {R : Type 0} (flat : R → List Item) (it : Keeping R) (weight : R → ℕ) (rows : List R)
    → it.rows ≡ rows → ((row : R) → full_size (flat row) ≤ weight row)
    → full_size (kept_items flat it) ≤ 27 + sum_by weight rows
kept_within flat it weight rows are each =
    let all = full-kept flat it in
    let same : sum_by (λ row. full_size (flat row)) it.rows ≡ sum_by (λ row. full_size (flat row)) rows =
    ap (sum_by (λ row. full_size (flat row))) are in
    let less = each_within (λ row. full_size (flat row)) weight rows each in
    omega (arith, all, same, less)
