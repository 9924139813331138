-- How a report shows rows of values, pushed or pulled.
use Rattle.std.specs.Prelude.{ℤ, false, List}
use Rattle.report_writer.specs.declared.tree.NumBucket.{NumBucket}
use Rattle.report_writer.specs.declared.tree.MetricBody.{MetricBody}
use Rattle.report_writer.specs.declared.tree.MetricBody.TheVariants.{Values}
use Rattle.metric_producer.specs.declared.row.Row.{Row}
use Rattle.metric_meaning.specs.KeyTrees.{groups_of}

-- a part with its value
abbrev pub valued_bucket : Row ℤ → NumBucket
valued_bucket row = record { start = row.start; end = row.end; value = row.value }

-- the rows of a metric of values, by their keys
abbrev pub values_body : List (Row ℤ) → MetricBody
values_body rows = Values (groups_of
    (λ leaves slices buckets. record { leaves = leaves; slices = slices; overflow = false; buckets = buckets })
    valued_bucket
    rows)
