-- The rows so far are grouped.
use Rattle.std.proofs.Common.{◌≡◌}
use Rattle.client_engine.specs.Groups.{row_shown, row_group, grouped}
use Rattle.client_engine.proofs.groups.collected.Given as goal

abbrev pub invariant-loop-row : goal.invariant-loop-row
invariant-loop-row g l =
    l.groups.entries
    ≡ grouped g.S.Group.PartialEq.eq (row_group g.S.RowShape.group_of) (row_shown g.S.RowShape.bucket) l.yielded
