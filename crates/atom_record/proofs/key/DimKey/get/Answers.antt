-- What is kept in its turn has the place.
use Rattle.std.proofs.Common.{◌≡◌, Some, length, slice_get, refl, sym, ap, ◌∙◌}
use Rattle.std.proofs.lemmas.Option.{slice_get_read}
use Rattle.atom_record.proofs.SparseLemmas.{found_at}
use Rattle.atom_record.proofs.key.DimKey.get.Goals as goal

pub returns : goal.returns
returns c =
    let kept = c.self.inside.present.items in
    let there : slice_get kept c.args.at ≡ Some c.in-Some.found.now =
    ap (λ l. slice_get l c.args.at) (sym c.deref.ensures.value)
    ∙ slice_get_read c.deref.result.now (length c.deref.result.now) c.args.at c.in-Some.found.now refl
    c.in-Some.ensures.lookup.3.0 c.in-Some.ensures.lookup.1 in
    rw (← c.self.view_is) (found_at c.self.inside.count kept c.self.invariant c.args.at c.args.at c.in-Some.found.now
    there
    c.if-found-at.true)
