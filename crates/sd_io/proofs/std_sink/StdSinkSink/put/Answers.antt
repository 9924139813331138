-- One more write was taken: a longer front of the piece is written, and no fault was counted.
use Rattle.std.proofs.Common.{rules}
use Rattle.std.proofs.lemmas.List.{take_rest}
use Rattle.sd_io.proofs.PutLemmas.{IsUnderWay-more}
use Rattle.sd_io.proofs.std_sink.StdSinkSink.put.Goals as goal

pub loop-rest-preserved : goal.loop-rest-preserved
loop-rest-preserved g c = record {
  under_way = rw take_rest
      (IsUnderWay-more _ _ _ _ _ c.loop-rest.invariant.under_way c.in-Ok.count c.in-Ok.ensures.bytes);
  faults = search rules;
}
