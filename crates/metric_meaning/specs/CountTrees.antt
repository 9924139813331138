-- How a report shows rows of counts: by their keys, with the overflow rows as one group more.
use Rattle.std.specs.Prelude.{pos, ◌-◌, ◌^◌, min, Bool, ◌&&◌, List}
use Rattle.std.specs.Bool.{beq}
use Rattle.atom_record.specs.declared.value.MetricKey.{MetricKey}
use Rattle.report_writer.specs.declared.tree.NumBucket.{NumBucket}
use Rattle.report_writer.specs.declared.tree.NumTree.{NumTree}
use Rattle.report_writer.specs.declared.tree.MetricBody.{MetricBody}
use Rattle.report_writer.specs.declared.tree.MetricBody.TheVariants.{Counts}
use Rattle.metric_producer.specs.declared.row.CountCell.{CountCell}
use Rattle.metric_producer.specs.declared.row.Row.{Row}
use Rattle.metric_kinds.specs.Keys.{is_same_key}
use Rattle.metric_meaning.specs.KeyTrees.{key_trees, groups_by}

-- a count in a report ends where a signed number of 64 bits does
abbrev pub bucket_of_count : Row CountCell → NumBucket
bucket_of_count row = record { start = row.start; end = row.end; value = pos (min row.value.number (2 ^ 63 - 1)) }

-- a group of rows: a key, and whether the rows are overflow rows
abbrev pub CountGroup : Type 0
CountGroup = MetricKey × Bool

-- the group of a row: overflow rows are without key, and yet none of them is in the group of the empty key
abbrev pub count_group : Row CountCell → CountGroup
count_group row = (row.key, row.value.overflow)

-- two groups are the same
abbrev pub is_same_group : CountGroup → CountGroup → Bool
is_same_group one other = is_same_key one.0 other.0 && beq one.1 other.1

-- a group with its buckets
abbrev pub count_tree : CountGroup → List NumBucket → NumTree
count_tree group buckets = record {
  leaves = key_trees 0 group.0.dims;
  slices = group.0.slices;
  overflow = group.1;
  buckets = buckets;
}

-- the rows of a metric of counts, by their groups
abbrev pub count_groups : List (Row CountCell) → List NumTree
count_groups = groups_by is_same_group count_group count_tree bucket_of_count

-- the rows of a metric of counts
abbrev pub counts_body : List (Row CountCell) → MetricBody
counts_body rows = Counts (count_groups rows)
