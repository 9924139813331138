-- There are as many inner keys as rows.
use Rattle.std.proofs.Common.{◌∙◌}
use Rattle.duration_metric.proofs.SparseStepLemmas.{len_is}
use Rattle.duration_metric.proofs.sparse.MaxProducer.inner_len.Goals as goal

pub returns-clause-value : goal.returns-clause-value
returns-clause-value c params calls stands =
    c.len.ensures.value ∙ len_is c.args.self.now.keys params.spec calls _ stands.keys
