-- What a row was told last is what the calls told last of its key.
use Rattle.std.proofs.Common.{sym, ◌∙◌}
use Rattle.duration_metric.proofs.SparseStepLemmas.{says_is, says_nothing}
use Rattle.duration_metric.proofs.sparse.MaxProducer.was_told.Goals as goal

-- no key is there
pub returns-in_default : goal.returns-in_default
returns-in_default c params calls stands =
    says_nothing c.args.self.now.keys params.spec calls _ stands.keys c.args.place
    (sym (rw (c.in_default.is) at c.pair.ensures))
    (record { truth = c.args.truth; out = c.args.out.now })

pub returns : goal.returns
returns c params calls stands =
    c.says.ensures
    ∙ says_is c.args.self.now.keys params.spec calls _ stands.keys c.args.place
    (c.in-Some._key.now, c.in-Some.entry.now) (sym (rw (c.in-Some.is) at c.pair.ensures))
    (record { truth = c.args.truth; out = c.args.out.now })
