-- A key came.
use Rattle.std.proofs.Common.{refl, subst, arith}
use Rattle.dim_table.specs.Table.{Admits}
use Rattle.count_metric.proofs.CountLemmas.{came}
use Rattle.count_metric.proofs.TallyLemmas.{takes_at, takes_none}
use Rattle.count_metric.proofs.count.CountProducerReadsEvents.event_of.Goals as goal

-- it has a row
pub returns-in-At-clause-moves : goal.returns-in-At-clause-moves
returns-in-At-clause-moves c =
    came c.args.self.now _ c.args.at c.args.ev.now 0 refl refl refl (λ n is. omega (arith, is))
    (takes_at c.args.self.now.table c.admit_copy.new.self c.args.ev.now c.in-At.place c.raise.new.table
    (subst (Admits c.args.self.now.table c.admit_copy.new.self c.args.ev.now 0) c.in-At.is c.in_ok-place.ensures.answer)
    c.raise.ensures.bound c.raise.ensures.raised)

-- it found no room
pub returns-in-Full-clause-moves : goal.returns-in-Full-clause-moves
returns-in-Full-clause-moves c =
    came c.args.self.now _ c.args.at c.args.ev.now 1 refl refl refl
    (λ n is. omega (arith, is, c.saturating_add-self.ensures))
    (takes_none c.args.self.now.table c.admit_copy.new.self c.args.ev.now
    (subst (Admits c.args.self.now.table c.admit_copy.new.self c.args.ev.now 0) c.in-Full.is
    c.in_ok-place.ensures.answer))
