-- Which trees can be written: those in which the fields of atoms have numbers that a field may have.
use Rattle.std.specs.Prelude.{ℕ, ◌≤◌, ◌<◌, ◌^◌, All, List}
use Rattle.report_writer.specs.declared.tree.Part.{Part}
use Rattle.report_writer.specs.declared.tree.AtomMsg.{AtomMsg}
use Rattle.report_writer.specs.declared.tree.AtomBucket.{AtomBucket}
use Rattle.report_writer.specs.declared.tree.GaugeTree.{GaugeTree}
use Rattle.report_writer.specs.declared.tree.EventTree.{EventTree}
use Rattle.report_writer.specs.declared.tree.MetricBody.{MetricBody}
use Rattle.report_writer.specs.declared.tree.MetricBody.TheVariants.{Events, Counts, Durations, Values, Gauges}
use Rattle.report_writer.specs.declared.tree.MetricTree.{MetricTree}
use Rattle.report_writer.specs.declared.tree.ReportTree.{ReportTree}

-- a field may have this number
abbrev pub IsFieldNumber : ℕ → Type 0
IsFieldNumber number = (1 ≤ number) × (number < 2 ^ 29)

-- each of these has a number that a field may have
abbrev pub AreNumbered : List Part → Type 0
AreNumbered parts = All (λ part. IsFieldNumber part.number) parts

-- so has the atom's own field, and each in it
pub record IsWritableAtom (atom : AtomMsg) : Type 0 where
  pub id : IsFieldNumber atom.id
  pub parts : AreNumbered atom.parts

-- so have the atoms of a bucket
abbrev pub IsWritableBucket : AtomBucket → Type 0
IsWritableBucket bucket = All IsWritableAtom bucket.atoms

-- so have the atoms of a gauge's key
abbrev pub IsWritableRow : GaugeTree → Type 0
IsWritableRow row = All IsWritableBucket row.buckets

-- so has the atom of an event
abbrev pub IsWritableEvent : EventTree → Type 0
IsWritableEvent event = IsWritableAtom event.atom

-- so have the atoms of a metric's rows, if its kind has any
abbrev pub AreWritableRows : MetricBody → Type 0
AreWritableRows (Events rows) = All IsWritableEvent rows
AreWritableRows (Counts rows) = Unit {0}
AreWritableRows (Durations rows) = Unit {0}
AreWritableRows (Values rows) = Unit {0}
AreWritableRows (Gauges rows) = All IsWritableRow rows

-- so have the atoms of a metric
abbrev pub IsWritableMetric : MetricTree → Type 0
IsWritableMetric metric = AreWritableRows metric.body

-- so have all atoms of a report
abbrev pub IsWritableReport : ReportTree → Type 0
IsWritableReport tree = All IsWritableMetric tree.metrics
