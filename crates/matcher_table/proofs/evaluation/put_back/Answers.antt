use Rattle.std.proofs.Common.{◌<◌, get_or, length, false, ◌∙◌, arith}
use Rattle.std.proofs.lemmas.List.{length-set}
use Rattle.matcher_table.proofs.Counting.{counted_at}
use Rattle.matcher_table.proofs.HangingLaws.{put_more, put_either}
use Rattle.matcher_table.proofs.evaluation.put_back.Goals as goal

pub bounds-idle-slots : goal.bounds-idle-slots
bounds-idle-slots c =
    c.requires.idle (get_or c.args.slots.now c.loop-at.at 0) (counted_at c.args.slots.now c.loop-at.at (omega arith))

pub bounds-results-slots : goal.bounds-results-slots
bounds-results-slots c =
    omega (
      arith,
      c.requires.results (get_or c.args.slots.now c.loop-at.at 0)
          (counted_at c.args.slots.now c.loop-at.at (omega arith)),
      c.loop-at.invariant.same,
    )

pub loop-at-preserved : goal.loop-at-preserved
loop-at-preserved c =
    let slots = c.args.slots.now in
    let now = c.loop-at.results in
    let idle = c.args.idle.now in
    let at = c.loop-at.at in
    let room : get_or slots at 0 < length now =
    omega (
      arith,
      c.requires.results (get_or slots at 0) (counted_at slots at (omega arith)),
      c.loop-at.invariant.same,
    ) in
    record {
      done = put_more c.args.results.now now idle slots c.args.from at (omega arith) room c.loop-at.invariant.done;
      either = put_either c.args.results.now now idle slots c.args.from at (omega arith) room
          c.loop-at.invariant.either;
      same = length-set now (get_or slots at 0) (get_or idle (get_or slots at 0) false) ∙ c.loop-at.invariant.same;
    }
