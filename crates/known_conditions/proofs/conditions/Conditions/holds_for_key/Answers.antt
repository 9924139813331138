use Rattle.std.proofs.Common.{◌∙◌, length, map, slice_get, ap}
use Rattle.std.specs.List.{range_with_len}
use Rattle.field_select.specs.declared.leaf.FieldSet.{FieldSet}
use Rattle.condition_links.specs.ThreeValues.{is_true}
use Rattle.metric_meaning.specs.DurationSteps.{inner_fields}
use Rattle.metric_meaning.specs.MetricConditions.{binds_at, is_condition_true}
use Rattle.metric_meaning.specs.Readings.{key_reading}
use Rattle.known_conditions.proofs.KeptPredicatesLemmas.{are_tables, truth_found}
use Rattle.known_conditions.proofs.conditions.Conditions.holds_for_key.Goals as goal

-- there is a table for each predicate, and a list of what is asked
pub query-requires-clause-tables : goal.query-requires-clause-tables
query-requires-clause-tables g c =
    let asks = binds_at c.as_slice-links.result.now (key_reading c.fields_at-fields.result.now c.args.key.now) in
    rw (c.as_slice.ensures.value, c.as_slice-2.ensures.value)
    (are_tables c.self.inside.tree.nodes c.self.inside.tables.items asks _ c.self.invariant.0
    (c.in_ok-ask_all.ensures ∙ ap (λ ns. map asks (range_with_len 0 (length ns))) c.as_slice-nodes.ensures))

-- what was found is the truth of the condition, as the fields of the predicate's keys read it
pub returns-clause-truth : goal.returns-clause-truth
returns-clause-truth g c =
    let nodes = c.self.inside.tree.nodes in
    let tables = c.self.inside.tables.items in
    let metric = c.args.metric.now in
    let key = c.args.key.now in
    let reading = key_reading c.fields_at-fields.result.now key in
    let asks = binds_at c.as_slice-links.result.now reading in
    let found = rw (c.as_slice.ensures.value, c.as_slice-2.ensures.value) at c.query.ensures.truth in
    rw (← c.self.view_is)
    (c.is_for_sure.ensures
    ∙ ap is_true (truth_found nodes tables metric reading c.query.result _ found
    (c.in_ok-ask_all.ensures ∙ ap (λ ns. map asks (range_with_len 0 (length ns))) c.as_slice-nodes.ensures
    ∙ ap (λ links. map (binds_at links reading) (range_with_len 0 (length nodes))) c.as_slice-links.ensures))
    ∙ ap (λ (fields : FieldSet). is_condition_true nodes tables metric (key_reading fields key))
    (c.fields_at-fields.ensures ∙ ap (λ ns. inner_fields (slice_get ns metric.what)) c.as_slice-nodes.ensures))
