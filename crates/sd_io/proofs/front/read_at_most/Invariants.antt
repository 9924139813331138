-- So much was taken; what may still be taken grows less.
use Rattle.std.proofs.Common.{◌-◌, length}
use Rattle.sd_io.proofs.FrontLemmas.{IsTakenSo}
use Rattle.sd_io.proofs.front.read_at_most.Given as goal

abbrev pub invariant-reads : goal.invariant-reads
invariant-reads g l =
    IsTakenSo l.most (g.S.Source.state l.fn.input) (g.S.Source.state l.input) l.bytes.items l.piece.items

abbrev pub decreases-reads : goal.decreases-reads
decreases-reads g l = l.most - length l.bytes.items
