-- The ids of the matchers so far stand behind what was there.
use Rattle.std.proofs.Common.{◌≡◌, ◌++◌, take}
use Rattle.std.specs.List.{flat_map}
use Rattle.heard_ids.specs.Hearing.{matched_id}
use Rattle.heard_ids.proofs.hearing.add_matched.Given as goal

abbrev pub invariant-loop-matcher : goal.invariant-loop-matcher
invariant-loop-matcher l = l.ids ≡ l.fn.ids ++ flat_map matched_id (take l.matcher-index l.matchers)
