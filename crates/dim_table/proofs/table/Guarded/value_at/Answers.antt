-- A write to a value changes no length.
use Rattle.indexmap.proofs.CallerLemmas.{index_map_len-with_value_at}
use Rattle.dim_table.proofs.table.Guarded.value_at.Goals as goal

pub invariant_of-self-lent : goal.invariant_of-self-lent
invariant_of-self-lent g c =
    λ _. (λ w. rw (index_map_len-with_value_at c.self.inside.rows c.args.place w) c.self.invariant, c.self.invariant)
