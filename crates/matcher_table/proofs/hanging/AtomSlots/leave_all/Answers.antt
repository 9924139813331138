use Rattle.std.proofs.Common.{◌∙◌, arith}
use Rattle.matcher_table.specs.Hanging.{slots_under}
use Rattle.matcher_table.proofs.HangingLaws.{left_more, apart_more}
use Rattle.matcher_table.proofs.hanging.AtomSlots.leave_all.Goals as goal

pub loop-id-preserved : goal.loop-id-preserved
loop-id-preserved c =
    let old = slots_under c.args.self.now in
    let now = slots_under c.loop-id.self in
    let new = slots_under c.leave.new.self in
    record {
      left = left_more c.args.slot old now new c.args.ids.now c.loop-id.id-index (omega arith) c.leave.ensures.others
          c.loop-id.invariant.apart c.requires c.loop-id.invariant.left c.leave.ensures.left;
      apart = apart_more c.args.slot old now new c.args.ids.now c.loop-id.id-index (omega arith) c.leave.ensures.others
          c.loop-id.invariant.apart;
      ids = c.leave.ensures.ids ∙ c.loop-id.invariant.ids;
    }
