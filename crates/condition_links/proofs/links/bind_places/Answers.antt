-- One value at a time.
use Rattle.std.proofs.Common.{List, [], ◌∷◌, ◌++◌, length, slice_get, sym, ap, ◌∙◌, append_assoc}
use Rattle.atom_record.specs.declared.value.Leaf.{Leaf}
use Rattle.predicate_state.specs.declared.bind.Bind.{Bind}
use Rattle.condition_links.specs.LinkBinds.{with_next}
use Rattle.condition_links.proofs.BindsLemmas.{binds_none, binds_more}
use Rattle.condition_links.proofs.links.bind_places.Goals as goal

pub loop-value-init : goal.loop-value-init
loop-value-init c = (
  [],
  (
    c.clear.ensures ∙ binds_none c.args.places.now,
    c.into_iter-value-iterator.ensures.into_iter_gives ∙ c.into_leaves-value-items.ensures,
  ),
)

pub loop-value-preserved : goal.loop-value-preserved
loop-value-preserved c =
    let places = c.args.places.now in
    let value = c.in-Some.value in
    let done = c.loop-value.invariant.0 in (
      done ++ value ∷ [],
      (
        c.in_ok-bind_next.ensures
            ∙ ap (λ (binds : List Bind). with_next (slice_get places (length binds)) value binds)
            c.loop-value.invariant.1.0
            ∙ sym (binds_more places done value),
        append_assoc done (value ∷ []) c.next.new.self
            ∙ ap (λ (leaves : List Leaf). done ++ leaves) (sym c.in-Some.ensures.steps)
            ∙ c.loop-value.invariant.1.1,
      ),
    )
