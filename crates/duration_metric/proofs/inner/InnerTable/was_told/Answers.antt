-- What a row was told last is what the calls told last of its key.
use Rattle.std.proofs.Common.{sym, ◌∙◌}
use Rattle.duration_metric.proofs.KnownLemmas.{says_is, says_nothing}
use Rattle.duration_metric.proofs.inner.InnerTable.was_told.Goals as goal

-- no key is there
pub returns-in_default : goal.returns-in_default
returns-in_default c spec calls stands =
    says_nothing c.args.self.now spec calls stands c.args.place (sym (rw (c.in_default.is) at c.pair.ensures))
    (record { truth = c.args.truth; out = c.args.out.now })

pub returns : goal.returns
returns c spec calls stands =
    c.says.ensures
    ∙ says_is c.args.self.now spec calls stands c.args.place (c.in-Some._key.now, c.in-Some.inner.now)
    (sym (rw (c.in-Some.is) at c.pair.ensures)) (record { truth = c.args.truth; out = c.args.out.now })
