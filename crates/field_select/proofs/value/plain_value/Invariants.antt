use Rattle.std.proofs.Common.{◌≡◌, drop}
use Rattle.field_select.specs.LeafValues.{picked_values}
use Rattle.field_select.specs.FieldEnds.{picked_from}
use Rattle.field_select.proofs.value.plain_value.Given as goal

-- the first value in what is left is the first of all
abbrev pub invariant-loop-entry : goal.invariant-loop-entry
invariant-loop-entry l =
    picked_from l.leaf l.entries (drop l.entry-index l.entries) ≡ picked_values l.leaf l.entries
