-- The fields that were made, and those of what is left, are all fields; what is left grows shorter.
use Rattle.std.proofs.Common.{◌≡◌, ◌++◌, length, None}
use Rattle.std.specs.Option.{option_copied}
use Rattle.report_writer.specs.AtomMessage.{parts_after}
use Rattle.report_writer.proofs.atom.parts_of.Given as goal

abbrev pub invariant-loop-entry : goal.invariant-loop-entry
invariant-loop-entry l = l.parts.items ++ parts_after (option_copied l.before) l.rest ≡ parts_after None l.fn.entries

abbrev pub decreases-loop-entry : goal.decreases-loop-entry
decreases-loop-entry l = length l.rest
