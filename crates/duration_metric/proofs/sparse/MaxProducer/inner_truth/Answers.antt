-- What was told last of a row is what the calls told last of its key.
use Rattle.std.proofs.Common.{sym, ap, ◌∙◌}
use Rattle.std.specs.Option.{option_map}
use Rattle.duration_metric.specs.declared.inner.Known.{Known}
use Rattle.duration_metric.proofs.SparseStepLemmas.{truth_is}
use Rattle.duration_metric.proofs.sparse.MaxProducer.inner_truth.Goals as goal

-- nothing was told
pub returns-in_default : goal.returns-in_default
returns-in_default c params calls stands =
    sym (ap (option_map (λ (known : Known). known.truth)) c.in_default.is)
    ∙ truth_is c.args.self.now.keys params.spec calls _ stands.keys c.args.place
    (c.in_ok-_key._key.now, c.in_ok-_key.entry.now) (sym c.in_ok-_key.ensures)

pub returns : goal.returns
returns c params calls stands =
    sym (ap (option_map (λ (known : Known). known.truth)) c.in-Some.is)
    ∙ truth_is c.args.self.now.keys params.spec calls _ stands.keys c.args.place
    (c.in_ok-_key._key.now, c.in_ok-_key.entry.now) (sym c.in_ok-_key.ensures)
