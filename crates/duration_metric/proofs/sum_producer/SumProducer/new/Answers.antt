-- Its parts stand for no calls, whatever the size of a bucket is.
use Rattle.duration_metric.proofs.sum_producer.SumProducer.new.Goals as goal

pub returns : goal.returns
returns c = c.new.ensures.stands c.args.size
