use Rattle.std.proofs.lemmas.Result.{err_from_is_err_and}
use Rattle.std.proofs.Common.{◌∙◌, sym}
use Rattle.dim_table.proofs.TableItemsLemmas.{row_fails, key_twice, row_more, there_from_is_some, absent_from_is_none}
use Rattle.dim_table.specs.Table.{keys}
use Rattle.dim_table.proofs.flat.build_row.Goals as goal

-- the row has a fault
pub returns-in_err-key : goal.returns-in_err-key
returns-in_err-key g c empty first n count are less fits =
    let p = err_from_is_err_and c.from_residual.result c.from_residual.ensures.1 in
    rw (p.1, p.2) (row_fails g.K.Flat.valid g.V.Flat.valid g.K.Flat.flat g.V.Flat.flat empty c.args.items.now
    first n c.args.table.now c.args.place are count less c.in_err-key.field-0.0 c.in_err-key.ensures)

-- the key is there
pub returns-then-is_some : goal.returns-then-is_some
returns-then-is_some g c empty first n count are less fits =
    key_twice g.K.Flat.valid g.V.Flat.valid g.K.Flat.flat g.V.Flat.flat empty c.args.items.now first n
    c.args.table.now c.args.place are c.in_ok-key.key c.in_ok-key.value c.in_ok-key.after c.in_ok-key.ensures count less
    (there_from_is_some (keys c.args.table.now) c.in_ok-key.key c.place_of.result
    (sym c.is_some.ensures ∙ c.if-is_some.true) c.place_of.ensures.there)

-- the key is new
pub returns : goal.returns
returns g c empty first n count are less fits =
    row_more g.K.Flat.valid g.V.Flat.valid g.K.Flat.flat g.V.Flat.flat empty c.args.items.now first n
    c.args.table.now c.args.place are c.in_ok-key.key c.in_ok-key.value c.in_ok-key.after c.in_ok-key.ensures count less
    fits
    (absent_from_is_none (keys c.args.table.now) c.in_ok-key.key c.place_of.result
    (sym c.is_some.ensures ∙ c.if-is_some.false) c.place_of.ensures.absent)
    c.admit.new.self c.in_ok-admit.field-0 c.in_ok-admit.ensures.answer
