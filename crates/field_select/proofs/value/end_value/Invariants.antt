use Rattle.std.proofs.Common.{◌≡◌, drop, None}
use Rattle.std.specs.Option.{option_copied}
use Rattle.field_select.specs.FieldEnds.{nearest_after}
use Rattle.field_select.proofs.value.end_value.Given as goal

-- with what was found so far the walk over what is left finds what the whole walk finds
abbrev pub invariant-loop-entry : goal.invariant-loop-entry
invariant-loop-entry l =
    nearest_after l.end l.leaf (l.index, option_copied l.found) (drop l.entry-index l.entries) ≡ nearest_after l.end
    l.leaf (0, None) l.entries
