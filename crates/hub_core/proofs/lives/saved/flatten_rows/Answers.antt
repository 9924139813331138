-- One row more, or no row is left.
use Rattle.std.proofs.Common.{sym, arith}
use Rattle.hub_core.proofs.SavedRowsLemmas.{none_added, row_added, all_added, all_carried}
use Rattle.hub_core.proofs.lives.saved.flatten_rows.Goals as goal

pub loop-place-init : goal.loop-place-init
loop-place-init c = none_added c.args.slots.now.entries c.args.out.now

pub loop-place-preserved : goal.loop-place-preserved
loop-place-preserved c =
    row_added c.args.slots.now.entries c.loop-place.place (c.in-Some._name.now, c.in-Some.live.now) c.args.out.now
    c.loop-place.out c.flatten.new.out (sym c.in-Some.ensures.entry) c.loop-place.invariant
    c.in_ok-flatten.ensures.added c.in_ok-flatten.ensures.valid

pub returns-clause-added : goal.returns-clause-added
returns-clause-added c =
    all_added c.args.slots.now.entries c.loop-place.place c.args.out.now c.loop-place.out (omega arith)
    c.loop-place.invariant

pub returns-clause-carried : goal.returns-clause-carried
returns-clause-carried c =
    all_carried c.args.slots.now.entries c.loop-place.place c.args.out.now c.loop-place.out (omega arith)
    c.loop-place.invariant
