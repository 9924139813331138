-- The map's keys are distinct by its test, so no two are the same.
use Rattle.std.proofs.lemmas.Map.Made.{AllPairs-from_IsDistinct}
use Rattle.dim_table.proofs.table.Guarded.len.Goals as goal

pub returns-clause-distinct : goal.returns-clause-distinct
returns-clause-distinct g c =
    rw (← c.self.view_is) (AllPairs-from_IsDistinct g.met.K.Exact.exact _ c.len.ensures.unique)
