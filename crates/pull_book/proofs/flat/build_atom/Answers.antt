-- The atom that was read from the payload is the one that has it.
use Rattle.std.proofs.Common.{◌≡◌, Some, ap, sym, ◌∙◌}
use Rattle.std.specs.Prelude.{slice_get}
use Rattle.std.proofs.lemmas.Result.{err_from_is_err_and}
use Rattle.atom_record.specs.declared.fault.AtomFault.TheVariants as faults
use Rattle.flat_form.specs.declared.item.Item.TheVariants.{Chunk}
use Rattle.flat_form.proofs.FlatLaws as laws
use Rattle.pull_book.proofs.PullItemsLemmas.{no_payload, atom_built, no_atom}
use Rattle.pull_book.proofs.flat.build_atom.Goals as goal

-- no payload stands there
pub returns-in_err-payload : goal.returns-in_err-payload
returns-in_err-payload c =
    let p = err_from_is_err_and c.from_residual.result c.from_residual.ensures.1 in
    rw (p.1, p.2) (no_payload c.args.items.now c.args.place c.in_err-payload.field-0.0 c.in_err-payload.ensures)

-- the payload of this atom stands there
pub returns-in-Ok : goal.returns-in-Ok
returns-in-Ok c =
    let here : slice_get c.args.items.now c.args.place ≡ Some (Chunk c.as_slice.result.now) =
    laws.item_is c.args.items.now c.args.place (Chunk c.in_ok-payload.payload) c.in_ok-payload.ensures.stands
    ∙ ap (λ bytes. Some (Chunk bytes)) (sym c.as_slice.ensures) in
    atom_built c.args.items.now c.args.place c.as_slice.result.now here c.in-Ok.atom c.in_ok-payload.next
    c.in_ok-payload.ensures.ends c.in-Ok.ensures.sound c.in-Ok.ensures.spelled c.in-Ok.ensures.only

-- the payload of no atom stands there
pub returns-in-Err-Bad : goal.returns-in-Err-Bad
returns-in-Err-Bad c =
    let here : slice_get c.args.items.now c.args.place ≡ Some (Chunk c.as_slice.result.now) =
    laws.item_is c.args.items.now c.args.place (Chunk c.in_ok-payload.payload) c.in_ok-payload.ensures.stands
    ∙ ap (λ bytes. Some (Chunk bytes)) (sym c.as_slice.ensures) in
    let fault : c.in-Err-Bad.field-0 ≡ faults.Bad c.in-Err-Bad.field-0-0 = let is = c.in-Err-Bad.field-0-is in cc in
    no_atom c.args.items.now c.args.place c.as_slice.result.now here c.in-Err-Bad.field-0 c.in-Err-Bad.field-0-0 fault
    c.in-Err-Bad.ensures.only
