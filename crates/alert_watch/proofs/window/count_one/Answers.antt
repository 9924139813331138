-- A key that finds room has a row, whose number is raised.
use Rattle.std.proofs.Common.{subst}
use Rattle.dim_table.specs.Table.{Admits}
use Rattle.alert_watch.proofs.CountedLemmas.{counted_at, not_away}
use Rattle.alert_watch.proofs.window.count_one.Goals as goal

pub returns-in-At-clause-counted : goal.returns-in-At-clause-counted
returns-in-At-clause-counted c =
    counted_at c.args.table.now c.admit_copy.new.self c.args.key.now c.in-At.place c.raise.new.table
    (subst (Admits c.args.table.now c.admit_copy.new.self c.args.key.now 0) c.in-At.is c.in_ok-place.ensures.answer)
    c.raise.ensures.bound c.raise.ensures.dropped c.raise.ensures.raised

-- so it isn't turned away
pub returns-in-Full-clause-counted : goal.returns-in-Full-clause-counted
returns-in-Full-clause-counted c =
    absurd (not_away c.args.table.now c.admit_copy.new.self c.args.key.now c.requires.room
    (subst (Admits c.args.table.now c.admit_copy.new.self c.args.key.now 0) c.in-Full.is c.in_ok-place.ensures.answer))
