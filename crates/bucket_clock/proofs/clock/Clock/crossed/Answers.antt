-- The ends up to the last time that the frame reaches are those that it crosses.
use Rattle.std.proofs.Common.{◌≤◌, arith}
use Rattle.bucket_clock.specs.Sound.{times}
use Rattle.bucket_clock.specs.Clock.{frame_at}
use Rattle.bucket_clock.proofs.ClockLemmas.{none_made, some_made}
use Rattle.bucket_clock.proofs.clock.Clock.crossed.Goals as goal

pub returns-then-reach-self-clause-stands : goal.returns-then-reach-self-clause-stands
returns-then-reach-self-clause-stands c =
    let clock = times c.self.inside.base c.self.inside.size c.self.inside.start c.self.inside.next_end in
    let not_before : c.self.inside.start ≤ c.args.time = rw (← c.self.view_is) at c.requires.not_before in
    rw (← c.self.view_is)
    (none_made clock (frame_at c.args.time c.args.is_pull) c.self.invariant.least_size c.self.invariant.in_bucket
    not_before c.reach_of-reach.result (omega arith)
    c.reach_of-reach.ensures.crosses c.if-reach-self.true)

pub returns-clause-stands : goal.returns-clause-stands
returns-clause-stands c =
    let clock = times c.self.inside.base c.self.inside.size c.self.inside.start c.self.inside.next_end in
    let not_before : c.self.inside.start ≤ c.args.time = rw (← c.self.view_is) at c.requires.not_before in
    rw (← c.self.view_is)
    (some_made clock (frame_at c.args.time c.args.is_pull) c.self.invariant.least_size c.self.invariant.in_bucket
    not_before c.reach_of-reach.result (omega arith)
    c.reach_of-reach.ensures.crosses c.if-reach-self.false)
