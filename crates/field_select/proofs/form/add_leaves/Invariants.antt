use Rattle.std.proofs.Common.{◌≡◌, ◌++◌, drop, map}
use Rattle.std.specs.List.{list_all}
use Rattle.field_select.specs.WellFormed.{is_message_field, path_in_message}
use Rattle.field_select.proofs.form.add_leaves.Given as goal

-- the children that are left decide, and with what they give the leaves are those of all children
abbrev pub invariant-loop-child : goal.invariant-loop-child
invariant-loop-child l = record {
  formed : list_all is_message_field (drop l.child-index l.child-items) ≡ list_all is_message_field l.child-items;
  leaves : l.leaves ++ map (path_in_message l.tree) (drop l.child-index l.child-items) ≡ l.fn.leaves
      ++ map (path_in_message l.tree) l.child-items;
}
