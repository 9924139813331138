-- What was read, and what the fields that are left say, are all.
use Rattle.std.proofs.Common.{◌≡◌, ◌++◌, length, map}
use Rattle.report_show.specs.Reading as reading
use Rattle.report_show.specs.Reading.{contents_left, contents_in}
use Rattle.report_show.proofs.fields.read_all.Given as goal

abbrev pub invariant-loop-field : goal.invariant-loop-field
invariant-loop-field g l =
    l.items ++ map g.T.Said.said (reading.payloads_under l.number (contents_left l.records))
    ≡ map g.T.Said.said (reading.payloads_under l.number (contents_in l.bytes))

abbrev pub decreases-loop-field : goal.decreases-loop-field
decreases-loop-field g l = length l.records.bytes
