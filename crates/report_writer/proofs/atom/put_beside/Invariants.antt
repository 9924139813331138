-- What was added and what is left of the message are the whole message; what is left grows shorter.
use Rattle.std.proofs.Common.{◌≡◌, ◌++◌, length}
use Rattle.report_writer.specs.AtomMessage.{fields_beside}
use Rattle.report_writer.proofs.atom.put_beside.Given as goal

abbrev pub invariant-loop-entry : goal.invariant-loop-entry
invariant-loop-entry l = l.out ++ fields_beside l.first l.rest ≡ l.fn.out ++ fields_beside l.first l.after

abbrev pub decreases-loop-entry : goal.decreases-loop-entry
decreases-loop-entry l = length l.rest
