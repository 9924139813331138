-- What the tree of the bytes says of each other tree.
use Rattle.std.proofs.Common.{rules, ◌≡◌, ◌≤◌, length}
use Rattle.report_writer.specs.ReportSpelling.{report_message}
use Rattle.report_show.specs.WellFormed.{IsShapedReport}
use Rattle.report_show.specs.Show.{most_report_bytes}
use Rattle.report_show.proofs.Verdict.{is_report, unshaped, unspelled}
use Rattle.report_show.proofs.tree.read_tree.Goals as goal

pub returns-then-not-is_shaped_report : goal.returns-then-not-is_shaped_report
returns-then-not-is_shaped_report c =
    let short : length c.args.bytes.now ≤ most_report_bytes = c.if-bytes-gt-MAX_BYTES.false in
    let never : IsShapedReport c.in_ok-tree.tree → ⊥ = search rules in
    (short, unshaped c.args.bytes.now short c.in_ok-tree.tree c.in_ok-tree.ensures never)

pub returns-then-eq : goal.returns-then-eq
returns-then-eq c =
    let short : length c.args.bytes.now ≤ most_report_bytes = c.if-bytes-gt-MAX_BYTES.false in
    let shaped : IsShapedReport c.in_ok-tree.tree = search rules in
    let spelled : c.args.bytes.now ≡ report_message c.in_ok-tree.tree = search rules in
    is_report c.args.bytes.now short c.in_ok-tree.tree c.in_ok-tree.ensures shaped spelled

pub returns-else-eq : goal.returns-else-eq
returns-else-eq c =
    let short : length c.args.bytes.now ≤ most_report_bytes = c.if-bytes-gt-MAX_BYTES.false in
    let never : c.args.bytes.now ≡ report_message c.in_ok-tree.tree → ⊥ = search rules in
    (short, unspelled c.args.bytes.now short c.in_ok-tree.tree c.in_ok-tree.ensures never)
