-- The slice by a state: its value, or the group that lists it.
use Rattle.std.specs.Prelude.{ℤ, Bool, List, Option, Some, None}
use Rattle.std.specs.List.{list_any, find}
use Rattle.std.specs.Ordering.{int_eq}
use Rattle.atom_record.specs.declared.value.Slice.{Slice}
use Rattle.atom_record.specs.declared.value.Slice.TheVariants.{Plain, Group}
use Rattle.config_links.specs.declared.linked.LState.{LState}
use Rattle.config_links.specs.declared.linked.LGroup.{LGroup}
use Rattle.book_meaning.specs.States.{no_state_known}

-- a group lists a value
abbrev pub lists_value : ℤ → LGroup → Bool
lists_value value group = list_any (λ listed. int_eq listed value) group.values

-- the slice by a group, or -1 where there is none
abbrev pub group_slice : LState → Option LGroup → Slice
group_slice state None = Plain state.atom_id no_state_known
group_slice state (Some group) = Group state.atom_id group.group

-- without groups the slice is the value itself, and else the first group that lists it
abbrev pub slice_in : LState → ℤ → Option (List LGroup) → Slice
slice_in state value None = Plain state.atom_id value
slice_in state value (Some groups) = group_slice state (find (lists_value value) groups)

-- the slice by a value of a state
abbrev pub slice_of : LState → ℤ → Slice
slice_of state value = slice_in state value state.map
