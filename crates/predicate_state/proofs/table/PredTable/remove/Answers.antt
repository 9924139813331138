-- The other keys keep their leaves.
use Rattle.std.proofs.Common.{ℕ, ◌≡◌, not, length}
use Rattle.std.proofs.lemmas.List.Elements.{All-filter}
use Rattle.predicate_state.specs.PredicateTable.{LeafKey, same_leaves}
use Rattle.predicate_state.proofs.table.PredTable.remove.Goals as goal

pub invariant_of-self : goal.invariant_of-self
invariant_of-self c =
    rw c.remove.ensures.rows (
      c.self.invariant.0,
      All-filter (λ (row : LeafKey × ℕ). not (same_leaves c.args.key.now row.0))
          (λ (row : LeafKey × ℕ). length row.0 ≡ c.self.inside.spec.leaves) c.self.inside.counts.rows
          c.self.invariant.1,
    )
