-- How a report shows rows of samples, pushed or pulled.
use Rattle.std.specs.Prelude.{List, map}
use Rattle.atom_record.specs.declared.atom.Atom.{Atom}
use Rattle.report_writer.specs.AtomMessage.{message_of}
use Rattle.report_writer.specs.declared.tree.AtomBucket.{AtomBucket}
use Rattle.report_writer.specs.declared.tree.MetricBody.{MetricBody}
use Rattle.report_writer.specs.declared.tree.MetricBody.TheVariants.{Gauges}
use Rattle.metric_producer.specs.declared.row.Row.{Row}
use Rattle.metric_meaning.specs.KeyTrees.{groups_of}

-- a part with its samples
abbrev pub sampled_bucket : Row (List Atom) → AtomBucket
sampled_bucket row = record { start = row.start; end = row.end; atoms = map message_of row.value }

-- the rows of a gauge, by their keys
abbrev pub gauge_body : List (Row (List Atom)) → MetricBody
gauge_body rows = Gauges (groups_of
    (λ leaves slices buckets. record { leaves = leaves; slices = slices; buckets = buckets })
    sampled_bucket
    rows)
