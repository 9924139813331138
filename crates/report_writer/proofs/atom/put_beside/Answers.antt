-- The entry that was added stands in front of what was left.
use Rattle.std.proofs.Common.{sym, ◌∙◌}
use Rattle.report_writer.proofs.AtomMessageLemmas.{beside_step}
use Rattle.report_writer.proofs.atom.put_beside.Goals as goal

pub loop-entry-preserved : goal.loop-entry-preserved
loop-entry-preserved c =
    let beside = sym c.shares_message.ensures ∙ c.if-not-shares_message.false in
    beside_step c.args.out.now c.loop-entry.out c.put_sub.new.out c.args.first.now c.in-Some.entry.now
    c.loop-entry.rest.now c.in-Some.others.now c.args.after.now
    c.loop-entry.invariant c.in-Some.ensures.cases.0 beside c.in_ok-put_sub.ensures
