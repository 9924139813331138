-- What the fields that are left hold under the number is what all hold.
use Rattle.std.proofs.Common.{◌≡◌, length}
use Rattle.report_show.specs.Reading as reading
use Rattle.report_show.specs.Reading.{contents_left, contents_in}
use Rattle.report_show.proofs.fields.number_in.Given as goal

abbrev pub invariant-loop-field : goal.invariant-loop-field
invariant-loop-field l =
    reading.number_under l.number (contents_left l.records) ≡ reading.number_under l.number (contents_in l.bytes)

abbrev pub decreases-loop-field : goal.decreases-loop-field
decreases-loop-field l = length l.records.bytes
