use Rattle.std.proofs.Common.{◌++◌, ◌∙◌, ap}
use Rattle.flat_form.proofs.WeightLaws.{saved_size}
use Rattle.flat_form.proofs.saved.save.Goals as goal

-- the law of the type bounds the items
pub returns-clause-size : goal.returns-clause-size
returns-clause-size g c =
    saved_size c.flatten.new.out (g.T.Flat.flat c.args.value.now) g.T.Flat.head (g.T.Flat.entries c.args.value.now)
    (c.in_ok-flatten.ensures.added ∙ ap (λ l. l ++ g.T.Flat.flat c.args.value.now) c.new-items.ensures)
    (g.met.T.Flat.bounded c.args.value.now c.in_ok-flatten.ensures.valid) c.encode_items.result c.encode_items.ensures
