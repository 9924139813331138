-- The map's index of a key is the position among the keys.
use Rattle.dim_table.proofs.KeyLemmas.{found_at, missing_at}
use Rattle.dim_table.proofs.table.Guarded.place_of.Goals as goal

pub returns-clause-there : goal.returns-clause-there
returns-clause-there g c =
    rw (← c.self.view_is) (found_at _ g.met.K.Exact.exact _ _ _ c.get_index_of.ensures.index)

pub returns-clause-absent : goal.returns-clause-absent
returns-clause-absent g c =
    rw (← c.self.view_is) (missing_at _ g.met.K.Exact.exact _ _ _ c.get_index_of.ensures.index)
