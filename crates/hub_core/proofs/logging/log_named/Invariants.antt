-- What stands under the names so far took the frame, and asked no more than it may. All keep what they hold.
use Rattle.std.proofs.Common.{take}
use Rattle.hub_core.specs.LiveQuestions.{NamesAsk}
use Rattle.hub_core.specs.LoggedFrames.{logged_of}
use Rattle.hub_core.specs.SharedTable.{KeepsSlots}
use Rattle.hub_core.specs.SlotLogs.{NamedShown}
use Rattle.hub_core.proofs.logging.log_named.Given as goal

abbrev pub invariant-loop-name : goal.invariant-loop-name
invariant-loop-name g l = record {
  shown : NamedShown (logged_of l.logged) (take l.name-index l.names) l.fn.slots.entries l.slots.entries;
  kept : KeepsSlots l.fn.slots.entries l.slots.entries;
  asks : NamesAsk (logged_of l.logged) (take l.name-index l.names) l.fn.slots.entries l.fn.asks l.asks;
}
