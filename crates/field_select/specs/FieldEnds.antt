-- The first or the last index of a field, as one walk over the entries finds it. For private clauses.
use Rattle.std.specs.Prelude.{ℕ, Bool, true, false, ◌&&◌, ◌==◌, nat_lt, max, is_none, List, [], ◌∷◌, map, filter, slice_index, slice_set, Option, Some, None, if◌then◌else◌}
use Rattle.config_types.specs.declared.fields.Position.{Position}
use Rattle.config_types.specs.declared.fields.Position.TheVariants as positions
use Rattle.atom_record.specs.declared.value.Value.{Value}
use Rattle.atom_record.specs.declared.atom.AtomField.{AtomField}
use Rattle.field_select.specs.declared.ends.End.{End}
use Rattle.field_select.specs.declared.ends.End.TheVariants.{First, Last}
use Rattle.field_select.specs.LeafValues.{is_repeated_at, lesser_index, least_index, greatest_index, picks_entry}
use Rattle.field_select.specs.declared.leaf.LeafPath.{LeafPath}

-- the position that picks an end
abbrev pub end_position : End → Position
end_position First = positions.First
end_position Last = positions.Last

-- whether a position picks each index from 1 on
abbrev pub picks_each : Option Position → Bool
picks_each None = false
picks_each (Some positions.First) = false
picks_each (Some positions.Last) = false
picks_each (Some positions.Any) = true
picks_each (Some positions.All) = true

-- which of two indexes is nearer to an end, where 0 is none
abbrev pub nearer_index : End → ℕ → ℕ → ℕ
nearer_index First x y = lesser_index x y
nearer_index Last x y = max x y

-- the index of some that is nearest to an end, or 0 where there is none
abbrev pub end_index : End → List ℕ → ℕ
end_index First indexes = least_index indexes
end_index Last indexes = greatest_index indexes

-- a table of the nearest index of each field, after one more index of a field, or 0
abbrev pub ends_after : End → List ℕ → ℕ → ℕ → List ℕ
ends_after end ends field index =
    if nat_lt 0 index then slice_set ends field (nearer_index end (slice_index ends field) index) else ends

-- the value of an entry, if it has this sub and there was none before it
abbrev pub found_after : ℕ → Option Value → AtomField → Option Value
found_after sub found entry = if entry.sub == sub && is_none found then Some entry.value else found

-- what a walk to an end has found, at the nearest index so far: one step at an entry of the field
abbrev pub nearest_step : End → ℕ → ℕ → Option Value → AtomField → ℕ × Option Value
nearest_step end sub index found entry =
    if nearer_index end index entry.index == index
    then (index, if entry.index == index then found_after sub found entry else found)
    else (entry.index, found_after sub None entry)

-- what a walk to an end finds in these entries, after it has found this
abbrev pub nearest_after : End → LeafPath → ℕ × Option Value → List AtomField → ℕ × Option Value
nearest_after end leaf nearest [] = nearest
nearest_after end leaf nearest (entry ∷ more) =
    if is_repeated_at leaf.field entry
    then nearest_after end leaf (nearest_step end leaf.sub nearest.0 nearest.1 entry) more
    else nearest_after end leaf nearest more

-- whether a position picks an index, of a field with these ends
abbrev pub picks_index_by : Option Position → ℕ → ℕ → ℕ → Bool
picks_index_by None first last index = index == 0
picks_index_by (Some positions.First) first last index = nat_lt 0 index && index == first
picks_index_by (Some positions.Last) first last index = nat_lt 0 index && index == last
picks_index_by (Some positions.Any) first last index = nat_lt 0 index
picks_index_by (Some positions.All) first last index = nat_lt 0 index

-- whether a leaf picks an entry of a field that has these ends
abbrev pub picks_by_ends : LeafPath → AtomField → ℕ → ℕ → Bool
picks_by_ends leaf entry first last =
    entry.field == leaf.field && (entry.sub == leaf.sub && picks_index_by leaf.position first last entry.index)

-- the values that a leaf picks in a part of an atom's entries
abbrev pub picked_from : LeafPath → List AtomField → List AtomField → List Value
picked_from leaf entries part = map (λ (entry : AtomField). entry.value) (filter (picks_entry leaf entries) part)
