-- To none, or to all.
use Rattle.std.proofs.Common.{arith}
use Rattle.bucket_clock.specs.Clock.{frame_at}
use Rattle.client_engine.proofs.CaughtUpLemmas.{all_stay}
use Rattle.client_engine.proofs.WokenLemmas.{none_due}
use Rattle.client_engine.proofs.tracks.Tracks.catch_up.Goals as goal

-- where memory is wanting, nothing is said of ends
pub returns-in_err-cross_all-clause-due : goal.returns-in_err-cross_all-clause-due
returns-in_err-cross_all-clause-due c = none_due c.cross_all.new.tracks.items

-- where no bucket ends with the frame, all stay as they are
pub returns-then-at-self-clause-takes : goal.returns-then-at-self-clause-takes
returns-then-at-self-clause-takes c =
    all_stay (frame_at c.args.at c.args.is_pull) c.args.self.now.due c.args.self.now.list.items
    (omega arith) c.requires.due
