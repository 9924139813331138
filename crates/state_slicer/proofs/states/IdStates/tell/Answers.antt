-- A key has a place in the table exactly where it has one in what is still known.
use Rattle.std.proofs.Common.{◌≡◌, Contains, slice_get, Some, inl, sym, subst, ap, ◌∙◌, to_z-of_z}
use Rattle.dim_table.specs.Table.{keys, with_value_at}
use Rattle.state_slicer.proofs.StampLemmas.{keys-current}
use Rattle.state_slicer.proofs.states.IdStates.tell.Goals as goal

pub append-requires : goal.append-requires
append-requires c there =
    c.in-None.ensures.absent
    (subst (λ ks. Contains ks c.args.key)
    (ap keys (sym c.self.view_is) ∙ keys-current c.self.inside.resets c.self.inside.keys) there)

pub returns-in-Some-clause-told : goal.returns-in-Some-clause-told
returns-in-Some-clause-told c =
    let there : slice_get (keys c.args.self.now) c.in-Some.place ≡ Some c.args.key =
    ap (λ ks. slice_get ks c.in-Some.place)
    (ap keys (sym c.self.view_is) ∙ keys-current c.self.inside.resets c.self.inside.keys)
    ∙ c.in-Some.ensures.there in
    inl (
      c.in-Some.place,
      there,
      c.write.ensures ∙ ap (with_value_at c.args.self.now c.in-Some.place) (to_z-of_z c.ranges.state),
    )
