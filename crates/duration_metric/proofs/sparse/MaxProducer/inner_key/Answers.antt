-- The key of a row is the inner key at its place.
use Rattle.std.proofs.Common.{sym}
use Rattle.duration_metric.proofs.SparseStepLemmas.{key_is, no_key_is}
use Rattle.duration_metric.proofs.sparse.MaxProducer.inner_key.Goals as goal

pub returns-in_err-key : goal.returns-in_err-key
returns-in_err-key c params calls stands =
    rw c.from_residual.ensures
    (no_key_is c.args.self.now.keys params.spec calls _ stands.keys c.args.place (sym c.in_err-key.ensures))

pub returns : goal.returns
returns c params calls stands =
    key_is c.args.self.now.keys params.spec calls _ stands.keys c.args.place
    (c.in_ok-key.key.now, c.in_ok-key._entry.now) (sym c.in_ok-key.ensures)
