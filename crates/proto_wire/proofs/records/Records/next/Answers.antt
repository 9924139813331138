-- Each answer of `next` is what the definition reads: the end, a field with what is left, or a fault.
use Rattle.std.proofs.Common.{◌≡◌, ◌<◌, ◌-◌, ℕ, List, length, true, false, arith, sym, ap, ◌∙◌}
use Rattle.std.specs.Prelude.{◌==◌}
use Rattle.std.proofs.lemmas.Bool.{eqb-true, eqb-false}
use Rattle.std.proofs.lemmas.Result.{err_from_is_err_and}
use Rattle.proto_wire.specs.Fields.{Rest, field_view}
use Rattle.proto_wire.proofs.NextLaws as laws
use Rattle.proto_wire.proofs.records.Records.next.Goals as goal

-- the bytes of a view that are none, and those that are some
none_left : (bytes : List ℕ) (old : Rest) → bytes ≡ old.bytes → true ≡ (length bytes == 0) → length old.bytes ≡ 0
none_left bytes old is empty = ap length (sym is) ∙ eqb-true (length bytes) 0 (sym empty)

some_left : (bytes : List ℕ) (old : Rest) → bytes ≡ old.bytes → false ≡ (length bytes == 0) → 0 < length old.bytes
some_left bytes old is full = let some = eqb-false (length bytes) 0 (sym full) in omega (arith, some, ap length is)

pub returns-then-is_empty-clause-written : goal.returns-then-is_empty-clause-written
returns-then-is_empty-clause-written c =
    laws.end-unwritten c.args.self.now (none_left c.self.inside.bytes.now c.args.self.now (ap (λ
    (r : Rest). r.bytes) c.self.view_is) c.if-is_empty.ensures)

pub returns-then-is_empty-clause-walk : goal.returns-then-is_empty-clause-walk
returns-then-is_empty-clause-walk c =
    laws.end-walk c.args.self.now (none_left c.self.inside.bytes.now c.args.self.now (ap (λ
    (r : Rest). r.bytes) c.self.view_is) c.if-is_empty.ensures)

pub returns-in_err-field-clause-grammar : goal.returns-in_err-field-clause-grammar
returns-in_err-field-clause-grammar c =
    let p = err_from_is_err_and c.from_residual.result c.from_residual.ensures.1 in
    rw p.1 (laws.fault-exactly c.args.self.now c.in_err-field.field-0.0 c.in_err-field.ensures)

pub returns-in_err-field-clause-written : goal.returns-in_err-field-clause-written
returns-in_err-field-clause-written c =
    let p = err_from_is_err_and c.from_residual.result c.from_residual.ensures.1 in
    rw p.1 (laws.fault-unwritten c.args.self.now c.in_err-field.field-0.0 c.in_err-field.ensures)

pub returns-in_err-field-clause-walk : goal.returns-in_err-field-clause-walk
returns-in_err-field-clause-walk c =
    let p = err_from_is_err_and c.from_residual.result c.from_residual.ensures.1 in
    rw (p.1, p.2) (laws.fault-walk c.args.self.now c.in_err-field.field-0.0 c.in_err-field.ensures
    (some_left c.self.inside.bytes.now c.args.self.now (ap (λ
    (r : Rest). r.bytes) c.self.view_is) c.if-is_empty.ensures))

pub invariant_of-self : goal.invariant_of-self
invariant_of-self c =
    let less = laws.field-shorter c.args.self.now _ _ c.in_ok-field.ensures in
    let bytes_is : c.self.inside.bytes.now ≡ c.args.self.now.bytes = ap (λ (r : Rest). r.bytes) c.self.view_is in
    (omega (arith, less, ap length bytes_is, c.self.invariant.0), c.self.invariant.1)

pub returns-clause-grammar : goal.returns-clause-grammar
returns-clause-grammar c =
    laws.field-exactly c.args.self.now _ _ (laws.parts-read c.self.inside.end c.self.inside.depth
    c.self.inside.bytes.now c.in_ok-field.after.now c.args.self.now
    (field_view c.in_ok-field.field) c.self.view_is c.self.invariant.0 c.in_ok-field.ensures)

pub returns-clause-written : goal.returns-clause-written
returns-clause-written c =
    laws.field-written c.args.self.now _ _ (laws.parts-read c.self.inside.end c.self.inside.depth
    c.self.inside.bytes.now c.in_ok-field.after.now c.args.self.now
    (field_view c.in_ok-field.field) c.self.view_is c.self.invariant.0 c.in_ok-field.ensures)

pub returns-clause-walk : goal.returns-clause-walk
returns-clause-walk c =
    laws.field-walk c.args.self.now _ _ (laws.parts-read c.self.inside.end c.self.inside.depth c.self.inside.bytes.now
    c.in_ok-field.after.now c.args.self.now
    (field_view c.in_ok-field.field) c.self.view_is c.self.invariant.0 c.in_ok-field.ensures)
    (some_left c.self.inside.bytes.now c.args.self.now (ap (λ
    (r : Rest). r.bytes) c.self.view_is) c.if-is_empty.ensures)

pub returns-clause-step : goal.returns-clause-step
returns-clause-step c =
    let bytes_is : c.self.inside.bytes.now ≡ c.args.self.now.bytes = ap (λ (r : Rest). r.bytes) c.self.view_is in
    let at_is : c.self.inside.end - length c.self.inside.bytes.now ≡ c.args.self.now.at = ap (λ
    (r : Rest). r.at) c.self.view_is in
    laws.field-step c.args.self.now _ _ (laws.parts-read c.self.inside.end c.self.inside.depth c.self.inside.bytes.now
    c.in_ok-field.after.now c.args.self.now
    (field_view c.in_ok-field.field) c.self.view_is c.self.invariant.0 c.in_ok-field.ensures) (omega (
      arith,
      ap length bytes_is,
      c.self.invariant.0,
    ))
