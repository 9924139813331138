-- One more time of a key, of which a copy may be admitted.
use Rattle.std.proofs.Common.{subst}
use Rattle.dim_table.specs.Table.{Admits}
use Rattle.duration_metric.proofs.SparseTimesLemmas.{takes_at, takes_none}
use Rattle.duration_metric.proofs.sparse_books.admit_copy.Goals as goal

pub returns-in-At : goal.returns-in-At
returns-in-At c =
    takes_at c.args.table.now c.admit_copy.new.self c.args.key.now c.args.time c.in-At.place c.lengthen.new.table
    (subst (Admits c.args.table.now c.admit_copy.new.self c.args.key.now 0) c.in-At.is c.in_ok-place.ensures.answer)
    c.lengthen.ensures.bound c.lengthen.ensures.longer

pub returns-in-Full : goal.returns-in-Full
returns-in-Full c =
    takes_none c.args.table.now c.admit_copy.new.self c.args.key.now c.args.time
    (subst (Admits c.args.table.now c.admit_copy.new.self c.args.key.now 0) c.in-Full.is c.in_ok-place.ensures.answer)
