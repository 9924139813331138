-- One place more woke up.
use Rattle.std.proofs.Common.{arith}
use Rattle.hub_core.specs.Sleeping.{moment_of_clock}
use Rattle.hub_core.proofs.KeptLemmas.{kept_same, kept_twice}
use Rattle.hub_core.proofs.SettledLemmas.{none_woken, woken_step, all_woken}
use Rattle.hub_core.proofs.settling.wake_all.Goals as goal

pub loop-place-init : goal.loop-place-init
loop-place-init c =
    let rows = c.args.slots.now.entries in
    record { woken = none_woken (moment_of_clock c.args.clock) rows; kept = kept_same rows }

pub loop-place-preserved : goal.loop-place-preserved
loop-place-preserved c =
    let olds = c.args.slots.now.entries in
    let news = c.loop-place.slots.entries in
    let next = c.wake_at.new.slots.entries in
    record {
      woken = woken_step (moment_of_clock c.args.clock) c.loop-place.place olds news next
          c.loop-place.invariant.woken c.in_ok-wake_at.ensures.woken;
      kept = kept_twice olds news next c.loop-place.invariant.kept c.wake_at.ensures.kept;
    }

pub returns-clause-woken : goal.returns-clause-woken
returns-clause-woken c =
    let olds = c.args.slots.now.entries in
    all_woken (moment_of_clock c.args.clock) c.loop-place.place olds c.loop-place.slots.entries (omega arith)
    c.loop-place.invariant.kept.names c.loop-place.invariant.woken

-- all keep their slots, also where memory is wanting
pub returns-in_err-wake_at-clause-kept : goal.returns-in_err-wake_at-clause-kept
returns-in_err-wake_at-clause-kept c =
    kept_twice c.args.slots.now.entries c.loop-place.slots.entries c.wake_at.new.slots.entries
    c.loop-place.invariant.kept c.wake_at.ensures.kept
