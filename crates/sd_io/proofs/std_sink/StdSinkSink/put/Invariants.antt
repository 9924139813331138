-- A front of the piece is written, and no fault was counted so far.
use Rattle.std.proofs.Common.{◌≡◌, length}
use Rattle.sd_io.proofs.PutLemmas.{IsUnderWay}
use Rattle.sd_io.proofs.std_sink.StdSinkSink.put.Given as goal

abbrev pub invariant-loop-rest : goal.invariant-loop-rest
invariant-loop-rest g l = record {
  under_way : IsUnderWay (g.W.Write.contents l.fn.self.stream) (g.W.Write.contents l.self-inside.inner) l.piece l.rest;
  faults : l.self-inside.faults ≡ l.fn.self.faults;
}

abbrev pub decreases-loop-rest : goal.decreases-loop-rest
decreases-loop-rest g l = length l.rest
