-- So much was taken; what is wanted still grows less.
use Rattle.std.proofs.Common.{◌-◌, length}
use Rattle.statsd_cli.proofs.FormLemmas.{IsTakenSo}
use Rattle.statsd_cli.proofs.saved_form.take_whole.Given as goal

abbrev pub invariant-reads : goal.invariant-reads
invariant-reads g l =
    IsTakenSo (g.S.Source.state l.fn.input) (g.S.Source.state l.input) l.count l.bytes.items l.piece.items

abbrev pub decreases-reads : goal.decreases-reads
decreases-reads g l = l.count - length l.bytes.items
