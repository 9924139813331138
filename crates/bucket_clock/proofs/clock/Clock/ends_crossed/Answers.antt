-- A frame crosses as many ends as the parts that it closes.
use Rattle.std.proofs.Common.{sym, ap, ◌∙◌, length}
use Rattle.bucket_clock.proofs.ClockLemmas.{ends_number}
use Rattle.bucket_clock.proofs.clock.Clock.ends_crossed.Goals as goal

pub returns-in-Some : goal.returns-in-Some
returns-in-Some c told stands =
    sym (ends_number c.in-Some.crossed) ∙ ap length (c.in-Some.ensures.stands told stands).0
