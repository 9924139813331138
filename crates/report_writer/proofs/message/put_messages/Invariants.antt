-- What was added is a field for each message that was seen.
use Rattle.std.proofs.Common.{◌≡◌, ◌++◌, take}
use Rattle.report_writer.specs.ReportSpelling.{repeated_field}
use Rattle.report_writer.proofs.message.put_messages.Given as goal

abbrev pub invariant-loop-item : goal.invariant-loop-item
invariant-loop-item g l = l.out ≡ l.fn.out ++ repeated_field l.number g.T.Message.spelled (take l.item-index l.items)
