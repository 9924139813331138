use Rattle.std.proofs.Common.{◌≡◌, ℕ, ◌<◌, get_or}
use Rattle.predicate_state.specs.declared.bind.Bind.{Bind}
use Rattle.predicate_state.proofs.bound.are_in_order.Given as goal

-- each bind so far is of the leaf that has its turn
abbrev pub invariant-loop-place : goal.invariant-loop-place
invariant-loop-place l = (at : ℕ) (none : Bind) → at < l.place → (get_or l.binds at none).place ≡ at
