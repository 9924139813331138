-- A value of a key with the place of its leaf.
use Rattle.std.specs.Prelude.{ℕ, Some}
use Rattle.atom_record.specs.declared.value.Value.{Value}
use Rattle.report_writer.specs.declared.tree.LeafTree.{LeafTree}

-- a value at a leaf's place
abbrev pub value_tree : ℕ → Value → LeafTree
value_tree place value = record { place = place; value = Some value }
