-- No time is too late for a number of 64 bits.
use Rattle.std.proofs.Common.{arith}
use Rattle.load_session.proofs.SessionLemmas.{time_at_most}
use Rattle.load_session.proofs.steps.Steps.advance.Goals as goal

pub overflow_add-time : goal.overflow_add-time
overflow_add-time c =
    let before = time_at_most c.args.self.seed c.args.self.done in
    omega (
      arith,
      before,
      c.requires.under_way.time,
      c.requires.under_way.done,
      c.requires.under_way.bound,
      c.pause.ensures.short,
    )
