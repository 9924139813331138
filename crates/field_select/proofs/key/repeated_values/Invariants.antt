use Rattle.std.proofs.Common.{◌≡◌, ◌++◌, drop}
use Rattle.field_select.specs.LeafValues.{picked_values}
use Rattle.field_select.specs.FieldEnds.{picked_from}
use Rattle.field_select.proofs.key.repeated_values.Given as goal

-- the values so far, and those that the leaf picks of what is left, are all that it picks
abbrev pub invariant-loop-entry : goal.invariant-loop-entry
invariant-loop-entry l =
    l.values ++ picked_from l.leaf l.entries (drop l.entry-index l.entries) ≡ picked_values l.leaf l.entries
