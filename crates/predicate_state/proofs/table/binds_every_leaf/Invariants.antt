use Rattle.std.proofs.Common.{◌≡◌, true}
use Rattle.predicate_state.specs.PredicateTruths.{are_leaves_bound}
use Rattle.predicate_state.proofs.table.binds_every_leaf.Given as goal

-- every place so far is bound
abbrev pub invariant-loop-place : goal.invariant-loop-place
invariant-loop-place l = are_leaves_bound l.binds l.place ≡ true
