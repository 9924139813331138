-- Rows in groups, as they are collected: each group once, with its buckets.
use Rattle.std.specs.Prelude.{◌≡◌, ℕ, Bool, List, [], ◌∷◌, ◌++◌, map, filter}
use Rattle.atom_record.specs.declared.value.MetricKey.{MetricKey}
use Rattle.bucket_meaning.specs.Guard.{firsts}
use Rattle.metric_producer.specs.declared.row.Row.{Row}

-- a row as a report shows it, by its part of time and its value
abbrev pub row_shown : {V B : Type 0} → (ℕ → ℕ → V → B) → Row V → B
row_shown shown row = shown row.start row.end row.value

-- the group of a row, by its key and its value
abbrev pub row_group : {V G : Type 0} → (MetricKey → V → G) → Row V → G
row_group group row = group row.key row.value

-- `group` tells the group of a row, and `bucket` shows a row.
module _ {V G B : Type 0} (same : G → G → Bool) (group : Row V → G) (bucket : Row V → B) where
  -- each group once, in the order in which they first come
  abbrev pub groups_in_order : List (Row V) → List G
  groups_in_order rows = firsts same [] (map group rows)

  -- the buckets of one group
  abbrev pub buckets_of : List (Row V) → G → List B
  buckets_of rows one = map bucket (filter (λ (row : Row V). same (group row) one) rows)

  -- a group with its buckets
  abbrev pub entry_in : List (Row V) → G → G × List B
  entry_in rows one = (one, buckets_of rows one)

  -- all groups with their buckets
  abbrev pub grouped : List (Row V) → List (G × List B)
  grouped rows = map (entry_in rows) (groups_in_order rows)

  -- whatever rows the old groups were of, the new ones are of those and this
  abbrev pub AddsRow : List (G × List B) → List (G × List B) → Row V → Type 0
  AddsRow old new row = (rows : List (Row V)) → old ≡ grouped rows → new ≡ grouped (rows ++ row ∷ [])

-- a group with its buckets, as a report shows it
abbrev pub group_tree : {G B T : Type 0} → (G → List B → T) → G × List B → T
group_tree tree entry = tree entry.0 entry.1
