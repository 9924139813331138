-- What was read has no fault, and an atom that has none is what was read.
use Rattle.std.proofs.Common.{◌≡◌, sym, ◌∙◌, subst}
use Rattle.std.specs.Bool.{Decides}
use Rattle.atom_record.specs.Equal.{atom_exact}
use Rattle.flat_form.proofs.FitsLemmas.{read_back}
use Rattle.flat_form.proofs.fits.has_no_fault.Goals as goal

pub returns-in-Ok : goal.returns-in-Ok
returns-in-Ok c =
    let exact = subst (λ same. Decides same (c.in-Ok.read ≡ c.args.atom.now)) (sym c.eq.ensures)
    (atom_exact c.in-Ok.read c.args.atom.now) in
    read_back c.args.atom.now c.in-Ok.read c.eq.result exact c.in-Ok.ensures.sound
    (λ has. let is = c.in-Ok.ensures.only c.args.atom.now has (c.as_slice-2.ensures ∙ c.in_ok-payload.ensures) in cc)
