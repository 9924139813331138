use Rattle.std.proofs.Common.{◌≡◌, ℕ, ◌<◌, ◌≤◌, get_or}
use Rattle.link_graph.specs.declared.walk.Mark.TheVariants.{Done}
use Rattle.link_graph.specs.Descent.{mark_at}
use Rattle.link_graph.proofs.walk.first_not_done.Given as goal

abbrev pub invariant-loop-at : goal.invariant-loop-at
invariant-loop-at l = (k : ℕ) → l.from ≤ k → k < l.at → mark_at l.marks (get_or l.children k 0) ≡ Done
