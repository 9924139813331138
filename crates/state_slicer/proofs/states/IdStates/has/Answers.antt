-- A key is there exactly where it has a place in the table of stamped states.
use Rattle.std.proofs.Common.{◌↔◌, IsTrue, Contains, sym, subst, ap, ◌∙◌}
use Rattle.dim_table.specs.Table.{keys}
use Rattle.state_slicer.proofs.StampLemmas.{keys-current}
use Rattle.state_slicer.proofs.StateItemsLemmas.{has_place}
use Rattle.state_slicer.proofs.states.IdStates.has.Goals as goal

pub returns : goal.returns
returns c =
    subst (λ ks. IsTrue c.is_some.result ↔ Contains ks c.args.key.now)
    (sym (ap keys (sym c.self.view_is) ∙ keys-current c.self.inside.resets c.self.inside.keys))
    (has_place (keys c.self.inside.keys) c.args.key.now c.place_of.result c.is_some.result c.is_some.ensures
    c.place_of.ensures.there c.place_of.ensures.absent)
