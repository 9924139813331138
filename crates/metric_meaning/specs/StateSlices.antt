-- The slices of a key by states: for each state that a metric names, what the log last gave for the key of its link.
use Rattle.std.specs.Prelude.{List, [], ◌∷◌, slice_get, Option, Some, None}
use Rattle.std.specs.List.{flat_map}
use Rattle.atom_record.specs.declared.log.LogFrame.{LogFrame}
use Rattle.atom_record.specs.declared.value.Leaf.{Leaf}
use Rattle.atom_record.specs.declared.value.Slice.{Slice}
use Rattle.field_select.specs.declared.leaf.FieldSet.{FieldSet}
use Rattle.config_links.specs.declared.linked.LState.{LState}
use Rattle.config_links.specs.declared.linked.LSlice.{LSlice}
use Rattle.book_meaning.specs.States.{state_value}
use Rattle.state_slicer.specs.Slices.{slice_of}
use Rattle.metric_meaning.specs.Readings.{LeafReading}

-- the key by which a state is asked for: what is read at the fields of the link, or the empty key without a link
abbrev pub state_key : Option FieldSet → LeafReading → List Leaf
state_key None reading = []
state_key (Some set) reading = reading set

-- the slice by a state: by what this log last gave for a key; without such a state there is none
abbrev pub slice_by : List LogFrame → Option LState → List Leaf → List Slice
slice_by log None key = []
slice_by log (Some state) key = slice_of state (state_value state.atom_id key log) ∷ []

-- the slice by the one of these states that is named, for what is read
abbrev pub named_slice : List LState → List LogFrame → LeafReading → LSlice → List Slice
named_slice states log reading slice = slice_by log (slice_get states slice.state) (state_key slice.in_what reading)

-- all slices of what is read, in the order in which the metric names states
abbrev pub named_slices : List LState → List LogFrame → LeafReading → List LSlice → List Slice
named_slices states log reading slices = flat_map (named_slice states log reading) slices
