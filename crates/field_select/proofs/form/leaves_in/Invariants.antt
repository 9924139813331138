use Rattle.std.proofs.Common.{◌≡◌, ◌++◌, drop}
use Rattle.std.specs.List.{flat_map, list_all}
use Rattle.field_select.specs.WellFormed.{is_atom_field, field_leaves}
use Rattle.field_select.proofs.form.leaves_in.Given as goal

-- the fields that are left decide, and with what they give the leaves are those of all fields
abbrev pub invariant-loop-tree : goal.invariant-loop-tree
invariant-loop-tree l = record {
  formed : list_all is_atom_field (drop l.tree-index l.trees) ≡ list_all is_atom_field l.trees;
  leaves : l.leaves ++ flat_map field_leaves (drop l.tree-index l.trees) ≡ flat_map field_leaves l.trees;
}
