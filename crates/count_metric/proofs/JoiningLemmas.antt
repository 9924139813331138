-- Two crossings with nothing between them, for a producer of counts: it has no more than its books.
use Rattle.metric_producer.specs.Joining.{Joins}
use Rattle.metric_producer.proofs.JoiningLemmas.{booked_joins, none_anew}
use Rattle.count_metric.specs.Counting.{count_collecting}
use Rattle.count_metric.specs.CountStands.{HasBooks, count_law}

pub counts_join : Joins count_law
counts_join = booked_joins count_collecting HasBooks (λ params calls crossings. none_anew)
