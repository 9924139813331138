use Rattle.std.proofs.Common.{◌∙◌, length, map, ap}
use Rattle.std.specs.List.{range_with_len}
use Rattle.metric_meaning.specs.MetricConditions.{binds_at}
use Rattle.known_conditions.proofs.KeptPredicatesLemmas.{are_tables, truth_found}
use Rattle.known_conditions.proofs.conditions.Conditions.truth.Goals as goal

-- there is a table for each predicate, and a list of what is asked
pub query-requires-clause-tables : goal.query-requires-clause-tables
query-requires-clause-tables g c =
    let asks = binds_at c.as_slice-links.result.now (g.A.Asked.reading c.args.asked.now) in
    rw (c.as_slice.ensures.value, c.as_slice-2.ensures.value)
    (are_tables c.self.inside.tree.nodes c.self.inside.tables.items asks _ c.self.invariant.0
    (c.in_ok-ask_all.ensures ∙ ap (λ n. map asks (range_with_len 0 n)) c.len.ensures))

-- what was found is the truth of the condition
pub returns-clause-truth : goal.returns-clause-truth
returns-clause-truth g c =
    let nodes = c.self.inside.tree.nodes in
    let metric = c.args.metric.now in
    let reading = g.A.Asked.reading c.args.asked.now in
    let asks = binds_at c.as_slice-links.result.now reading in
    let found = rw (c.as_slice.ensures.value, c.as_slice-2.ensures.value) at c.query.ensures.truth in
    rw (← c.self.view_is)
    (truth_found nodes c.self.inside.tables.items metric reading c.query.result _ found
    (c.in_ok-ask_all.ensures ∙ ap (λ n. map asks (range_with_len 0 n)) c.len.ensures
    ∙ ap (λ links. map (binds_at links reading) (range_with_len 0 (length nodes))) c.as_slice-links.ensures))
