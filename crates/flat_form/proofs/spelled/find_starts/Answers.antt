use Rattle.std.proofs.Common.{◌≡◌, ◌+◌, ◌<◌, length, ap, ◌∙◌, arith}
use Rattle.std.proofs.lemmas.List.{length-append}
use Rattle.std.proofs.lemmas.Result.{err_from_is_err_and}
use Rattle.std.proofs.lemmas.Bool.Decides.{nat_tests}
use Rattle.flat_form.specs.ItemSpelling.{spelled_items}
use Rattle.flat_form.specs.Spelled.{items_from}
use Rattle.flat_form.proofs.ItemRangeLaws.{fails, shortens}
use Rattle.flat_form.proofs.SpelledLaws.{none_found, finds, all_found}
use Rattle.flat_form.proofs.spelled.find_starts.Goals as goal

-- none is found yet
pub loop-rest-init : goal.loop-rest-init
loop-rest-init c = rw c.new-starts.ensures (none_found c.args.bytes.now (λ i. omega (arith, c.type_inv.bytes i)))

-- the next item has a fault
pub returns-in_err-item : goal.returns-in_err-item
returns-in_err-item c =
    let p = err_from_is_err_and c.from_residual-in_err-item.result c.from_residual-in_err-item.ensures.1 in
    let some : 0 < length c.loop-rest.rest.now = grind (arith, nat_tests, c.is_empty.ensures) in
    rw (p.1, p.2) (fails c.args.bytes.now (items_from c.args.bytes.now c.loop-rest.starts) c.loop-rest.rest.now
    c.loop-rest.invariant.read some c.in_err-item.field-0.0 c.in_err-item.ensures)

pub loop-rest-smaller : goal.loop-rest-smaller
loop-rest-smaller c = shortens c.loop-rest.rest.now _ _ c.loop-rest.invariant.read.fits c.in_ok-item.ensures

pub loop-rest-preserved : goal.loop-rest-preserved
loop-rest-preserved c =
    let some : 0 < length c.loop-rest.rest.now = grind (arith, nat_tests, c.is_empty.ensures) in
    let sum : length c.args.bytes.now ≡ length (spelled_items (items_from c.args.bytes.now c.loop-rest.starts))
    + length c.loop-rest.rest.now = ap length c.loop-rest.invariant.read.parts ∙ length-append _ _ in
    rw c.in_ok-push.ensures.added (finds c.args.bytes.now c.loop-rest.starts c.loop-rest.rest.now _ c.in_ok-item.item
    c.in_ok-item.after.now c.loop-rest.invariant some (omega arith) c.in_ok-item.ensures)

pub returns : goal.returns
returns c =
    let none : length c.loop-rest.rest.now ≡ 0 = grind (arith, nat_tests, c.is_empty.ensures) in
    all_found c.args.bytes.now c.loop-rest.starts c.loop-rest.rest.now c.loop-rest.invariant none
