-- What an entry of a saved session weighs: the bytes that it may take.
use Rattle.std.specs.Prelude.{ℕ, ◌+◌, ◌*◌, List, length}
use Rattle.std.specs.List.{sum_by}
use Rattle.atom_record.specs.declared.atom.Atom.{Atom}
use Rattle.atom_record.specs.declared.value.Leaf.{Leaf}
use Rattle.atom_record.specs.declared.value.MetricKey.{MetricKey}
use Rattle.metric_producer.specs.declared.row.Row.{Row}
use Rattle.flat_form.specs.Weight.{leaf_weight, entry_weight}

-- what an entry weighs besides what it holds
abbrev pub entry_size : ℕ
entry_size = 128

-- what a key of leaves holds: 16 for each leaf and each value, and the bytes of its texts
abbrev pub leaves_weight : List Leaf → ℕ
leaves_weight leaves = sum_by leaf_weight leaves

-- what a metric's key holds: the same, and 16 for each slice
abbrev pub key_weight : MetricKey → ℕ
key_weight key = leaves_weight key.dims + 16 * length key.slices

-- what an atom holds: 16 for each of its entries, and the bytes of its texts
abbrev pub atom_weight : Atom → ℕ
atom_weight atom = sum_by entry_weight atom.fields

-- an entry of a key of leaves
abbrev pub leaves_entry : List Leaf → ℕ
leaves_entry leaves = entry_size + leaves_weight leaves

-- an entry of a metric's key
abbrev pub key_entry : MetricKey → ℕ
key_entry key = entry_size + key_weight key

-- an entry of an atom
abbrev pub atom_entry : Atom → ℕ
atom_entry atom = entry_size + atom_weight atom

-- an entry of a row with a number
abbrev pub row_entry : {V : Type 0} → Row V → ℕ
row_entry row = key_entry row.key

-- a row of samples is an entry, and each of its samples is one
abbrev pub samples_entry : Row (List Atom) → ℕ
samples_entry row = key_entry row.key + sum_by atom_entry row.value

-- a row of an event is one entry, with what its atom holds
abbrev pub event_entry : Row (List Atom) → ℕ
event_entry row = key_entry row.key + sum_by atom_weight row.value
