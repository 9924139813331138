use Rattle.std.proofs.Common.{◌≡◌, take}
use Rattle.predicate_state.specs.BoundKeys.{bound_key}
use Rattle.predicate_state.proofs.bound.has_values.Given as goal

-- the values so far are those of the key
abbrev pub invariant-loop-at : goal.invariant-loop-at
invariant-loop-at l = take l.at (bound_key l.binds) ≡ take l.at l.key
