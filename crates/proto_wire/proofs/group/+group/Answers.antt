-- The loop of a group: each way out of it, and each way on, is a step of the reading of its records.
use Rattle.std.proofs.Common.{◌≡◌, ◌<◌, ℕ, List, length, false, arith, sym}
use Rattle.std.specs.Prelude.{◌==◌}
use Rattle.std.proofs.lemmas.Bool.{eqb-true, eqb-false}
use Rattle.std.proofs.lemmas.Result.{err_from_is_err_and}
use Rattle.proto_wire.proofs.GroupLoop as reading
use Rattle.proto_wire.proofs.group.+group.Goals as goal

-- a list that isn't empty
some : (bytes : List ℕ) → false ≡ (length bytes == 0) → 0 < length bytes
some bytes full = let is = eqb-false (length bytes) 0 (sym full) in omega (arith, is)

pub group_of-returns-in_err-tag-clause-ended : goal.group_of-returns-in_err-tag-clause-ended
group_of-returns-in_err-tag-clause-ended t c =
    let p = err_from_is_err_and c.from_residual.result c.from_residual.ensures.1 in
    rw (p.1, p.2) (reading.bad_tag c.args.end c.args.levels c.args.number c.args.at c.args.bytes.now
    c.loop-rest.rest.now (omega arith) c.loop-rest.invariant.leads _
    (some c.loop-rest.rest.now c.loop-rest-test.ensures) c.in_err-tag.ensures.tag)

pub group_of-returns-then-is_end_of-clause-ended : goal.group_of-returns-then-is_end_of-clause-ended
group_of-returns-then-is_end_of-clause-ended t c =
    reading.its_end c.args.end c.args.levels c.args.number c.args.at c.args.bytes.now c.loop-rest.rest.now
    (omega arith) c.loop-rest.invariant.leads _ _
    (some c.loop-rest.rest.now c.loop-rest-test.ensures) c.in_ok-tag.ensures.tag (sym c.if-is_end_of.ensures)

pub group_of-returns-in_err-after-clause-ended : goal.group_of-returns-in_err-after-clause-ended
group_of-returns-in_err-after-clause-ended t c =
    let p = err_from_is_err_and c.from_residual-in_err-after.result c.from_residual-in_err-after.ensures.1 in
    rw (p.1, p.2) (reading.bad_field c.args.end c.args.levels c.args.number c.args.at c.args.bytes.now
    c.loop-rest.rest.now (omega arith) c.loop-rest.invariant.leads _ _ _
    (some c.loop-rest.rest.now c.loop-rest-test.ensures) c.in_ok-tag.ensures.tag
    (sym c.if-is_end_of.ensures) c.in_err-after.ensures.field)

pub group_of-loop-rest-preserved : goal.group_of-loop-rest-preserved
group_of-loop-rest-preserved t c = record {
  within = omega (arith, c.in_ok-tag.ensures.shorter, c.in_ok-after.ensures.shorter);
  leads = reading.leads_on c.args.end c.args.levels c.args.number c.args.at c.args.bytes.now c.loop-rest.rest.now
      (omega arith) c.loop-rest.invariant.leads _ _ _ _
      (some c.loop-rest.rest.now c.loop-rest-test.ensures) c.in_ok-tag.ensures.tag
      (sym c.if-is_end_of.ensures) c.in_ok-after.ensures.field;
}

pub group_of-returns-clause-ended : goal.group_of-returns-clause-ended
group_of-returns-clause-ended t c =
    rw c.fault-2.ensures (reading.cut c.args.end c.args.levels c.args.number c.args.at c.args.bytes.now
    c.loop-rest.rest.now (omega arith) c.loop-rest.invariant.leads (eqb-true _ _ (sym c.loop-rest-test.ensures)))
