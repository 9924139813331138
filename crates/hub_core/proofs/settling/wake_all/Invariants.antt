-- What stands before this place woke up, and all keep their slots.
use Rattle.hub_core.specs.SharedTable.{KeepsSlots}
use Rattle.hub_core.specs.Settling.{WokenBefore}
use Rattle.hub_core.specs.Sleeping.{moment_of_clock}
use Rattle.hub_core.proofs.settling.wake_all.Given as goal

abbrev pub invariant-loop-place : goal.invariant-loop-place
invariant-loop-place l = record {
  woken : WokenBefore (moment_of_clock l.clock) l.place l.fn.slots.entries l.slots.entries;
  kept : KeepsSlots l.fn.slots.entries l.slots.entries;
}
