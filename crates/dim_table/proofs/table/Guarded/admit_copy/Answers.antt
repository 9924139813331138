-- A key with a position is there, and what `append_copy` answers says what the new table stands for.
use Rattle.std.proofs.Common.{◌≡◌, Some, Contains, refl, sym, slice_get}
use Rattle.dim_table.specs.Table.{keys}
use Rattle.dim_table.proofs.KeyLemmas.{found, missing}
use Rattle.dim_table.proofs.TableLemmas.{there_answer, there_stands, ok_stands}
use Rattle.dim_table.proofs.table.Guarded.admit_copy.Goals as goal

pub returns-in-Some-clause-answer : goal.returns-in-Some-clause-answer
returns-in-Some-clause-answer g c =
    let at : slice_get (keys c.args.self.now) c.in-Some.there ≡ Some c.args.key.now =
    rw (← c.self.view_is) (found _ g.met.K.Exact.exact _ _ _ (sym c.in-Some.ensures.index)) in
    there_answer g.K.PartialEq.eq g.met.K.Exact.exact c.args.self.now c.args.self.now c.args.key.now c.args.fresh
    c.in-Some.there at

pub returns-in-Some-clause-stands : goal.returns-in-Some-clause-stands
returns-in-Some-clause-stands g c =
    let at : slice_get (keys c.args.self.now) c.in-Some.there ≡ Some c.args.key.now =
    rw (← c.self.view_is) (found _ g.met.K.Exact.exact _ _ _ (sym c.in-Some.ensures.index)) in
    there_stands g.K.PartialEq.eq g.met.K.Exact.exact c.args.self.now c.args.self.now c.args.key.now c.in-Some.there
    (record { at = at; same = refl })

pub returns-in-None-clause-stands : goal.returns-in-None-clause-stands
returns-in-None-clause-stands g c =
    ok_stands g.K.PartialEq.eq g.met.K.Exact.exact c.args.self.now c.append_copy.new.self c.args.key.now c.args.fresh
    c.append_copy.result c.append_copy.ensures.answer

pub returns-in-None-clause-present : goal.returns-in-None-clause-present
returns-in-None-clause-present g c there =
    let absent : ¬ Contains (keys c.args.self.now) c.args.key.now =
    rw (← c.self.view_is) (missing _ g.met.K.Exact.exact _ _ (sym c.in-None.ensures.index)) in
    absurd (absent there)
