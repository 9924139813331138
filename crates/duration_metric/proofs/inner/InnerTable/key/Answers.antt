-- The key of a row is the inner key at its place.
use Rattle.std.proofs.Common.{sym}
use Rattle.duration_metric.proofs.KnownLemmas.{key_is}
use Rattle.duration_metric.proofs.inner.InnerTable.key.Goals as goal

pub returns : goal.returns
returns c spec calls stands =
    key_is c.args.self.now spec calls stands c.args.place (c.in_ok-key.key.now, c.in_ok-key._inner.now)
    (sym c.in_ok-key.ensures)
