-- Which trees are well-formed: their numbers fit their types, which a contract doesn't see, and they are such as a
-- report may be. First the widths, a word for each type; then what is asked beyond them; then both.
use Rattle.std.specs.Prelude.{◌≡◌, ℕ, ◌≤◌, ◌<◌, ◌^◌, All, [], length, true, false, IfSome, FitsSigned}
use Rattle.std.specs.Int.{w32, w64}
use Rattle.atom_record.specs.declared.value.Value.{Value}
use Rattle.atom_record.specs.declared.value.Value.TheVariants as held
use Rattle.atom_record.specs.declared.value.Slice.{Slice}
use Rattle.atom_record.specs.declared.value.Slice.TheVariants.{Plain, Group}
use Rattle.report_writer.specs.declared.tree.LeafTree.{LeafTree}
use Rattle.report_writer.specs.declared.tree.NumBucket.{NumBucket}
use Rattle.report_writer.specs.declared.tree.NumTree.{NumTree}
use Rattle.report_writer.specs.declared.tree.Part.{Part}
use Rattle.report_writer.specs.declared.tree.PartBody.{PartBody}
use Rattle.report_writer.specs.declared.tree.PartBody.TheVariants.{Num, Chunk, Bits}
use Rattle.report_writer.specs.declared.tree.AtomMsg.{AtomMsg}
use Rattle.report_writer.specs.declared.tree.AtomBucket.{AtomBucket}
use Rattle.report_writer.specs.declared.tree.GaugeTree.{GaugeTree}
use Rattle.report_writer.specs.declared.tree.EventTree.{EventTree}
use Rattle.report_writer.specs.declared.tree.MetricBody.{MetricBody}
use Rattle.report_writer.specs.declared.tree.MetricBody.TheVariants.{Events, Counts, Durations, Values, Gauges}
use Rattle.report_writer.specs.declared.tree.MetricTree.{MetricTree}
use Rattle.report_writer.specs.declared.tree.Drop64.{Drop64}
use Rattle.report_writer.specs.declared.tree.AlarmTree.{AlarmTree}
use Rattle.report_writer.specs.declared.tree.ReportTree.{ReportTree}
use Rattle.report_writer.specs.Writable.{IsFieldNumber}
use Rattle.report_writer.specs.ReportSpelling.{report_message}

-- a value's number fits its type
abbrev pub FitsValue : Value → Type 0
FitsValue (held.Int value) = FitsSigned w32 value
FitsValue (held.Long value) = FitsSigned w64 value
FitsValue (held.Bool value) = Unit {0}
FitsValue (held.Str text) = Unit {0}
FitsValue (held.Raw bytes) = Unit {0}
FitsValue (held.Bits32 bits) = bits < 2 ^ 32

-- The numbers of a leaf fit their types.
pub record FitsLeaf (leaf : LeafTree) : Type 0 where
  pub place : leaf.place < 2 ^ 32
  pub value : IfSome leaf.value FitsValue

-- the numbers of a slice fit their types
abbrev pub FitsSlice : Slice → Type 0
FitsSlice (Plain atom_id value) = (atom_id < 2 ^ 32) × FitsSigned w32 value
FitsSlice (Group atom_id group) = (atom_id < 2 ^ 32) × FitsSigned w64 group

-- The numbers of a bucket fit their types.
pub record FitsBucket (bucket : NumBucket) : Type 0 where
  pub start : bucket.start < 2 ^ 64
  pub end : bucket.end < 2 ^ 64
  pub value : FitsSigned w64 bucket.value

-- The numbers of a row's key and buckets fit their types.
pub record FitsRow (row : NumTree) : Type 0 where
  pub leaves : All FitsLeaf row.leaves
  pub slices : All FitsSlice row.slices
  pub buckets : All FitsBucket row.buckets

-- a number in an atom fits its type
abbrev pub FitsPartBody : PartBody → Type 0
FitsPartBody (Num value) = value < 2 ^ 64
FitsPartBody (Chunk bytes) = Unit {0}
FitsPartBody (Bits bits) = bits < 2 ^ 32

-- the number that a field of an atom holds fits its type
abbrev pub FitsPart : Part → Type 0
FitsPart part = FitsPartBody part.body

-- the numbers of an atom's fields fit their types
abbrev pub FitsAtom : AtomMsg → Type 0
FitsAtom atom = All FitsPart atom.parts

-- The numbers of a bucket with atoms fit their types.
pub record FitsSamples (bucket : AtomBucket) : Type 0 where
  pub start : bucket.start < 2 ^ 64
  pub end : bucket.end < 2 ^ 64
  pub atoms : All FitsAtom bucket.atoms

-- The numbers of a gauge's row fit their types.
pub record FitsGauge (row : GaugeTree) : Type 0 where
  pub leaves : All FitsLeaf row.leaves
  pub slices : All FitsSlice row.slices
  pub buckets : All FitsSamples row.buckets

-- The numbers of an event fit their types.
pub record FitsEvent (event : EventTree) : Type 0 where
  pub at : event.at < 2 ^ 64
  pub atom : FitsAtom event.atom

-- the numbers of a metric's rows fit their types
abbrev pub FitsBody : MetricBody → Type 0
FitsBody (Events rows) = All FitsEvent rows
FitsBody (Counts rows) = All FitsRow rows
FitsBody (Durations rows) = All FitsRow rows
FitsBody (Values rows) = All FitsRow rows
FitsBody (Gauges rows) = All FitsGauge rows

-- The numbers of a metric fit their types.
pub record FitsMetric (metric : MetricTree) : Type 0 where
  pub id : FitsSigned w64 metric.id
  pub base : metric.base < 2 ^ 64
  pub size : metric.size < 2 ^ 64
  pub dropped : metric.dropped < 2 ^ 64
  pub not_kept : metric.not_kept < 2 ^ 64
  pub missing : metric.missing < 2 ^ 64
  pub body : FitsBody metric.body

-- The numbers of what a table dropped or a list didn't keep fit their types.
pub record FitsDrop (drop : Drop64) : Type 0 where
  pub id : FitsSigned w64 drop.id
  pub number : drop.number < 2 ^ 64

-- The numbers of an alarm and its key fit their types.
pub record FitsAlarm (alarm : AlarmTree) : Type 0 where
  pub id : FitsSigned w64 alarm.id
  pub at : alarm.at < 2 ^ 64
  pub sum : alarm.sum < 2 ^ 64
  pub leaves : All FitsLeaf alarm.leaves
  pub slices : All FitsSlice alarm.slices

-- The numbers of a report fit their types.
pub record FitsReport (tree : ReportTree) : Type 0 where
  pub uid : FitsSigned w32 tree.uid
  pub id : FitsSigned w64 tree.id
  pub last : tree.last < 2 ^ 64
  pub current : tree.now < 2 ^ 64
  pub metrics : All FitsMetric tree.metrics
  pub predicate_drops : All FitsDrop tree.predicate_drops
  pub state_drops : All FitsDrop tree.state_drops
  pub state_atoms_dropped : tree.state_atoms_dropped < 2 ^ 64
  pub alarms : All FitsAlarm tree.alarms
  pub alarms_not_kept : All FitsDrop tree.alarms_not_kept

-- a field of an atom that has no fault has a number from 1 to 127
abbrev pub IsShapedPart : Part → Type 0
IsShapedPart part = (1 ≤ part.number) × (part.number ≤ 127)

-- An atom's id is the number of a field, and its own fields have numbers of an atom.
pub record IsShapedAtom (atom : AtomMsg) : Type 0 where
  pub id : IsFieldNumber atom.id
  pub parts : All IsShapedPart atom.parts

-- the atoms of a bucket are as a report may have them
abbrev pub IsShapedSamples : AtomBucket → Type 0
IsShapedSamples bucket = All IsShapedAtom bucket.atoms

-- the atoms of a gauge's row are as a report may have them
abbrev pub IsShapedGauge : GaugeTree → Type 0
IsShapedGauge row = All IsShapedSamples row.buckets

-- the atom of an event is as a report may have it
abbrev pub IsShapedEvent : EventTree → Type 0
IsShapedEvent event = IsShapedAtom event.atom

-- a row that gathers what found no room has no key
abbrev pub IsShapedCount : NumTree → Type 0
IsShapedCount row = row.overflow ≡ true → (row.leaves ≡ []) × (row.slices ≡ [])

-- only counts have such a row
abbrev pub IsShapedRow : NumTree → Type 0
IsShapedRow row = row.overflow ≡ false

-- what is asked of a metric's rows, by its kind
abbrev pub IsShapedBody : MetricBody → Type 0
IsShapedBody (Events rows) = All IsShapedEvent rows
IsShapedBody (Counts rows) = All IsShapedCount rows
IsShapedBody (Durations rows) = All IsShapedRow rows
IsShapedBody (Values rows) = All IsShapedRow rows
IsShapedBody (Gauges rows) = All IsShapedGauge rows

-- an event metric has no buckets
abbrev pub IsSizeOf : MetricBody → ℕ → Type 0
IsSizeOf (Events rows) size = size ≡ 0
IsSizeOf (Counts rows) size = Unit {0}
IsSizeOf (Durations rows) size = Unit {0}
IsSizeOf (Values rows) size = Unit {0}
IsSizeOf (Gauges rows) size = Unit {0}

-- A metric's rows and its size are such as its kind has.
pub record IsShapedMetric (metric : MetricTree) : Type 0 where
  pub size : IsSizeOf metric.body metric.size
  pub body : IsShapedBody metric.body

-- a table is named that dropped something, and an alert some of whose alarms aren't listed
abbrev pub IsShapedDrop : Drop64 → Type 0
IsShapedDrop drop = 1 ≤ drop.number

-- The metrics of a report are such as their kinds have, its tables have dropped something, and its alerts have alarms
-- that aren't listed.
pub record IsShapedReport (tree : ReportTree) : Type 0 where
  pub metrics : All IsShapedMetric tree.metrics
  pub predicate_drops : All IsShapedDrop tree.predicate_drops
  pub state_drops : All IsShapedDrop tree.state_drops
  pub alarms_not_kept : All IsShapedDrop tree.alarms_not_kept

-- The numbers fit, the tree is as a report may be, and its bytes can be counted.
pub record IsWellFormed (tree : ReportTree) : Type 0 where
  pub fits : FitsReport tree
  pub shaped : IsShapedReport tree
  pub counted : length (report_message tree) < 2 ^ 64
