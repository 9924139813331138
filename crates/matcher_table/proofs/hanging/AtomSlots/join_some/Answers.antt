use Rattle.std.proofs.Common.{◌∙◌, arith}
use Rattle.matcher_table.specs.Hanging.{slots_under}
use Rattle.matcher_table.proofs.HangingLaws.{joined_more, apart_more}
use Rattle.matcher_table.proofs.hanging.AtomSlots.join_some.Goals as goal

pub loop-id-preserved : goal.loop-id-preserved
loop-id-preserved c =
    let old = slots_under c.args.self.now in
    let now = slots_under c.loop-id.self in
    let new = slots_under c.join.new.self in
    record {
      joined = joined_more c.args.slot old now new c.args.ids.now c.loop-id.id-index (omega arith)
          c.in_ok-join.ensures.others c.loop-id.invariant.apart c.requires c.loop-id.invariant.joined
          c.in_ok-join.ensures.own;
      apart = apart_more c.args.slot old now new c.args.ids.now c.loop-id.id-index (omega arith)
          c.in_ok-join.ensures.others c.loop-id.invariant.apart;
      ids = c.in_ok-join.ensures.ids ∙ c.loop-id.invariant.ids;
    }
