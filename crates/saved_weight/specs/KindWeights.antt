-- What a metric weighs after some steps, for each kind of metric: what is open, what is kept, what its kind watches.
use Rattle.std.specs.Prelude.{ℕ, ◌+◌, List, [], map, take, Option, Some, None}
use Rattle.std.specs.List.{sum_by}
use Rattle.atom_record.specs.declared.atom.Atom.{Atom}
use Rattle.atom_record.specs.declared.value.Leaf.{Leaf}
use Rattle.atom_record.specs.declared.value.MetricKey.{MetricKey}
use Rattle.bucket_meaning.specs.Guard.{firsts, of_key, arrival_key}
use Rattle.config_links.specs.declared.linked.LMetric.{LMetric}
use Rattle.config_links.specs.declared.linked.LKind.{LKind}
use Rattle.config_links.specs.declared.linked.LKind.TheVariants.{Event, Count, PushedValue, PulledValue, PushedGauge, PulledGauge, SumDuration, MaxSparse}
use Rattle.config_types.specs.declared.parameters.DiffSpec.{DiffSpec}
use Rattle.config_types.specs.declared.parameters.PredSpec.{PredSpec}
use Rattle.metric_kinds.specs.Diffs.{KeyedInts}
use Rattle.metric_kinds.specs.Keys.{is_same_key}
use Rattle.metric_meaning.specs.CountSteps.{count_way}
use Rattle.metric_meaning.specs.DurationSteps.{inner_after, out_key, sum_way, longest_way}
use Rattle.metric_meaning.specs.EventSteps.{event_way}
use Rattle.metric_meaning.specs.Histories.{Step, Installation}
use Rattle.metric_meaning.specs.PulledGaugeSteps.{pulled_gauge_way}
use Rattle.metric_meaning.specs.PulledIntervals.{open_interval}
use Rattle.metric_meaning.specs.PulledValueSteps.{watched_integers, pulled_value_way}
use Rattle.metric_meaning.specs.PushedGaugeSteps.{pushed_gauge_way}
use Rattle.metric_meaning.specs.PushedValueSteps.{pushed_value_way}
use Rattle.metric_meaning.specs.SnapshotSteps.{snapshot_found, pulled_key}
use Rattle.metric_meaning.specs.ValueLeaves.{ValueLeaf}
use Rattle.metric_meaning.specs.Ways.{Way}
use Rattle.metric_producer.specs.declared.row.Row.{Row}
use Rattle.saved_weight.specs.Entries.{key_weight, leaves_entry, key_entry, atom_entry, row_entry, samples_entry, event_entry}
use Rattle.saved_weight.specs.WayBooks.{own_books, books_weight}

-- metrics with a number a key: each admitted key of the open part and each kept row is an entry
abbrev pub numbers_weight : {X C V : Type 0} → Way X MetricKey C (Row V) → List Step → ℕ
numbers_weight way steps = books_weight way key_entry row_entry steps

-- a key of samples is an entry, and each of its samples is one: the first of what came with it, at most so many
abbrev pub sampled_entry : ℕ → List (MetricKey × Atom) → MetricKey → ℕ
sampled_entry samples came key = key_entry key + sum_by atom_entry (take samples (of_key is_same_key key came))

-- metrics of samples
abbrev pub sampled_weight : ℕ → Way (MetricKey × Atom) MetricKey Atom (Row (List Atom)) → List Step → ℕ
sampled_weight samples way steps =
    books_weight way (sampled_entry samples (own_books way steps).came) samples_entry steps

-- an atom of a metric's last snapshot is an entry, with its key
abbrev pub pulled_entry : LMetric → Atom → ℕ
pulled_entry metric atom = atom_entry atom + key_weight (pulled_key metric atom)

-- the atoms of a snapshot; where there is none, it has none
abbrev pub atoms_found : Option (List Atom) → List Atom
atoms_found None = []
atoms_found (Some atoms) = atoms

-- the atoms of the last snapshot that a pulled metric means
abbrev pub snapshot_weight : Installation → LMetric → List Step → ℕ
snapshot_weight installed metric steps =
    sum_by (pulled_entry metric) (atoms_found (snapshot_found installed metric steps))

-- the keys with which an open interval began, each once; none where none is open, or it found no snapshot
abbrev pub start_keys : Option (Option KeyedInts) → List MetricKey
start_keys None = []
start_keys (Some None) = []
start_keys (Some (Some integers)) = firsts is_same_key [] (map arrival_key integers)

-- an inner key is an entry, and so is the key for which it counts
abbrev pub inner_entry : Installation → LMetric → List Step → List Leaf × ℕ → ℕ
inner_entry installed metric steps inner =
    leaves_entry inner.0 + key_entry (out_key installed metric steps inner.0)

-- the inner keys of a duration
abbrev pub inner_weight : Installation → LMetric → PredSpec → List Step → ℕ
inner_weight installed metric spec steps =
    sum_by (inner_entry installed metric steps) (inner_after installed metric spec steps).counts

-- a metric of pulled values: besides its books its last snapshot, and the keys with which the open interval began
abbrev pub pulled_value_weight : Installation → LMetric → ValueLeaf → DiffSpec → List Step → ℕ
pulled_value_weight installed metric source spec steps =
    snapshot_weight installed metric steps
    + sum_by key_entry (start_keys (open_interval (watched_integers installed metric source) steps))
    + numbers_weight (pulled_value_way installed metric source spec) steps

-- what a metric weighs after these steps, as one of a kind
abbrev pub weight_as : Installation → List Step → LMetric → LKind → ℕ
weight_as installed steps metric Event = books_weight (event_way installed metric) (λ key. 0) event_entry steps
weight_as installed steps metric (Count overflow) = numbers_weight (count_way installed metric overflow) steps
weight_as installed steps metric (PushedValue atom_id leaf aggregation) =
    let source : ValueLeaf = record { atom_id = atom_id; leaf = leaf } in
    numbers_weight (pushed_value_way installed metric source aggregation) steps
weight_as installed steps metric (PulledValue atom_id leaf spec) =
    let source : ValueLeaf = record { atom_id = atom_id; leaf = leaf } in
    pulled_value_weight installed metric source spec steps
weight_as installed steps metric (PushedGauge fields samples) =
    sampled_weight samples (pushed_gauge_way installed metric fields samples) steps
weight_as installed steps metric (PulledGauge fields samples mode trigger) =
    snapshot_weight installed metric steps
    + sampled_weight samples (pulled_gauge_way installed metric fields samples mode trigger) steps
weight_as installed steps metric (SumDuration spec) =
    inner_weight installed metric spec steps + numbers_weight (sum_way installed metric spec) steps
weight_as installed steps metric (MaxSparse spec) =
    inner_weight installed metric spec steps + numbers_weight (longest_way installed metric spec) steps

-- what it weighs, by its kind
abbrev pub metric_weight : Installation → List Step → LMetric → ℕ
metric_weight installed steps metric = weight_as installed steps metric metric.kind
