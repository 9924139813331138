-- Among distinct keys the first row of a key is its only one.
use Rattle.std.proofs.Common.{ap}
use Rattle.dim_table.proofs.KeyLemmas.{removed}
use Rattle.dim_table.proofs.table.Guarded.remove.Goals as goal

pub returns-clause-rows : goal.returns-clause-rows
returns-clause-rows g c =
    rw (← c.self.view_is)
    (ap (λ es. record { rows = es; bound = c.self.inside.bound; dropped = c.self.inside.dropped })
    (removed g.K.PartialEq.eq g.met.K.Exact.exact c.self.inside.rows.entries c.shift_remove.new.self.entries
    c.args.key.now
    c.len-len.ensures.unique c.shift_remove.ensures.entries))
