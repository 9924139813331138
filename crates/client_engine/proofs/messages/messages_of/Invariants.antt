-- The atoms so far have their messages.
use Rattle.std.proofs.Common.{◌≡◌, map, take}
use Rattle.report_writer.specs.AtomMessage.{message_of}
use Rattle.client_engine.proofs.messages.messages_of.Given as goal

abbrev pub invariant-loop-atom : goal.invariant-loop-atom
invariant-loop-atom l = l.shown ≡ map message_of (take l.atom-index l.atoms)
