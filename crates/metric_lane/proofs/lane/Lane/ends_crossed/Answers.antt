use Rattle.bucket_clock.specs.Clock.{frame_at}
use Rattle.metric_lane.proofs.LaneStandsLemmas.{counts_none}
use Rattle.metric_lane.proofs.lane.Lane.ends_crossed.Goals as goal

-- where there are no buckets there are no ends
pub returns-in-None : goal.returns-in-None
returns-in-None g c = rw (c.in-None.is) (counts_none (frame_at c.args.at c.args.is_pull))
