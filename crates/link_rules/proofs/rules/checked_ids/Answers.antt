use Rattle.std.proofs.Common.{◌≡◌, None}
use Rattle.std.proofs.lemmas.Result.{err_from_is_err_and}
use Rattle.link_rules.specs.LinkRules.{rule_fault, id_fault, reference_fault}
use Rattle.link_rules.proofs.LinkFaultLemmas.{breaks_second}
use Rattle.link_rules.proofs.rules.checked_ids.Goals as goal

-- limits and ids have no fault, and a reference has one
pub returns-in_err-refuse_references : goal.returns-in_err-refuse_references
unfolding rule_fault
returns-in_err-refuse_references c =
    let p = err_from_is_err_and c.from_residual-in_err-refuse_references.result
    c.from_residual-in_err-refuse_references.ensures.1 in
    let e = c.args.entities.now in
    let none : id_fault e ≡ None = c.in_ok-ids.ensures.0 in
    rw (p.1, p.2)
    (breaks_second (id_fault e) (reference_fault e) c.in_err-refuse_references.field-0.0 _ none
    c.in_err-refuse_references.ensures)
