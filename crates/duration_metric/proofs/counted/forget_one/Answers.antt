-- A key that has a row stays, and another goes where none counts for it.
use Rattle.std.proofs.Common.{[], ◌∷◌}
use Rattle.atom_record.specs.Equal.{metric_key_exact}
use Rattle.dim_table.specs.Table.{keys}
use Rattle.dim_table.proofs.KeyLemmas.{Contains-from_place, is_among-from_Contains}
use Rattle.metric_kinds.specs.Keys.{is_same_key}
use Rattle.duration_metric.proofs.ZerosLemmas.{forgets_there, forgets_absent}
use Rattle.duration_metric.proofs.counted.forget_one.Goals as goal

-- it has one
pub returns-in_default-clause-zeros : goal.returns-in_default-clause-zeros
returns-in_default-clause-zeros c =
    let names = keys c.args.table.now in
    let key = c.args.key.now in
    forgets_there c.args.tally.now key names
    (is_among-from_Contains is_same_key metric_key_exact names key
    (Contains-from_place names c.in_default.field-0 key c.in_default.ensures.there))

pub returns-clause-zeros : goal.returns-clause-zeros
returns-clause-zeros c =
    forgets_absent c.args.tally.now c.forget.new.self (c.args.key.now ∷ []) (keys c.args.table.now)
    c.forget.ensures.zeros
