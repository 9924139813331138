-- How a report shows rows: grouped by their keys, in the order in which the keys first come.
use Rattle.std.specs.Prelude.{ℕ, ◌+◌, ◌-◌, ◌^◌, min, Bool, List, [], ◌∷◌, ◌++◌, map, filter, Some, None}
use Rattle.atom_record.specs.declared.value.Leaf.{Leaf}
use Rattle.atom_record.specs.declared.value.Leaf.TheVariants.{Missing, One, Many}
use Rattle.atom_record.specs.declared.value.Slice.{Slice}
use Rattle.atom_record.specs.declared.value.MetricKey.{MetricKey}
use Rattle.bucket_meaning.specs.Guard.{firsts}
use Rattle.report_writer.specs.declared.tree.LeafTree.{LeafTree}
use Rattle.metric_producer.specs.declared.row.Row.{Row}
use Rattle.metric_kinds.specs.Keys.{is_same_key}

-- the values of one leaf, at its place in the key: one for each of many, and one without a value where there is none
abbrev pub leaf_trees : ℕ → Leaf → List LeafTree
leaf_trees place Missing = record { place = place; value = None } ∷ []
leaf_trees place (One value) = record { place = place; value = Some value } ∷ []
leaf_trees place (Many values) = map (λ value. record { place = place; value = Some value }) values

-- the place of a leaf as a report shows it: it ends where a number of 32 bits does
abbrev pub shown_place : ℕ → ℕ
shown_place place = min place (2 ^ 32 - 1)

-- the values of all leaves, from a place on
abbrev pub key_trees : ℕ → List Leaf → List LeafTree
key_trees place [] = []
key_trees place (leaf ∷ leaves) = leaf_trees (shown_place place) leaf ++ key_trees (place + 1) leaves

-- Rows in groups: `group` tells the group of a row, `tree` makes a group with its buckets one entry of the report, and
-- `bucket` shows a row.
module _ {V G B T : Type 0} (same : G → G → Bool) (group : Row V → G) (tree : G → List B → T) (bucket : Row V → B) where
  -- a group with its rows
  abbrev pub group_by : List (Row V) → G → T
  group_by rows one = tree one (map bucket (filter (λ (row : Row V). same (group row) one) rows))

  -- the groups, in the order in which they first come
  abbrev pub groups_by : List (Row V) → List T
  groups_by rows = map (group_by rows) (firsts same [] (map group rows))

-- the key of a row
abbrev pub row_key : {V : Type 0} → Row V → MetricKey
row_key row = row.key

-- a key with its buckets, which `tree` makes one entry of the report of the key's leaves, its slices and its buckets
abbrev pub key_tree : {B T : Type 0} → (List LeafTree → List Slice → List B → T) → MetricKey → List B → T
key_tree tree key buckets = tree (key_trees 0 key.dims) key.slices buckets

-- the rows by their keys, where `bucket` shows a row
abbrev pub groups_of : {V B T : Type 0} → (List LeafTree → List Slice → List B → T) → (Row V → B) → List (Row V)
    → List T
groups_of tree bucket = groups_by is_same_key row_key (key_tree tree) bucket
