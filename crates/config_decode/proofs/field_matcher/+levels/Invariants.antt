use Rattle.std.proofs.Common.{◌≡◌, ◌++◌, ◌+◌, ◌*◌, map, drop}
use Rattle.config_decode.specs.Tree.{field_matcher_in}
use Rattle.config_decode.proofs.field_matcher.+levels.Given as goal

abbrev pub decreases-children : goal.decreases-children
decreases-children l = 3 * l.levels

abbrev pub decreases-field_matcher : goal.decreases-field_matcher
decreases-field_matcher l = 3 * l.levels + 1

abbrev pub decreases-field_matchers : goal.decreases-field_matchers
decreases-field_matchers l = 3 * l.levels + 2

-- what was read, and what the messages that are left will say
abbrev pub invariant-field_matchers-loop-inner : goal.invariant-field_matchers-loop-inner
invariant-field_matchers-loop-inner l =
    l.trees ++ map (field_matcher_in l.levels) (drop l.inner-index l.messages)
    ≡ map (field_matcher_in l.levels) l.messages
