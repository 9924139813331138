-- One leaf's value at a time.
use Rattle.std.proofs.Common.{◌≡◌, ℕ, ◌+◌, ◌<◌, None, List, [], ◌∷◌, ◌++◌, length, map, take, get_or, slice_get, sym, ap, ◌∙◌, arith}
use Rattle.std.proofs.lemmas.List.{map_more, take_all}
use Rattle.atom_record.specs.declared.value.Leaf.{Leaf}
use Rattle.field_select.specs.declared.leaf.LeafPath.{LeafPath}
use Rattle.predicate_state.specs.declared.bind.Bind.{Bind}
use Rattle.condition_links.specs.LinkBinds.{binds_of, value_at_leaf, with_next}
use Rattle.condition_links.proofs.BindsLemmas.{binds_none, binds_more}
use Rattle.condition_links.proofs.links.bind_values_at.Goals as goal

-- what is made of one more is bound
one_more : {X : Type 0} (f : X → Leaf) (places : List ℕ) (xs : List X) (i : ℕ) (d : X) (old new : List Bind)
    (value : Leaf)
    → i < length xs → old ≡ binds_of places (map f (take i xs)) → value ≡ f (get_or xs i d)
    → new ≡ with_next (slice_get places (length old)) value old → new ≡ binds_of places (map f (take (i + 1) xs))
one_more f places xs i d old new value within so_far is next =
    next
    ∙ ap (λ (binds : List Bind). with_next (slice_get places (length binds)) value binds) so_far
    ∙ sym (binds_more places (map f (take i xs)) value)
    ∙ ap (λ v. binds_of places (map f (take i xs) ++ v ∷ [])) is
    ∙ ap (binds_of places) (sym (map_more f xs i d within))

pub loop-leaf-init : goal.loop-leaf-init
loop-leaf-init c = c.clear.ensures ∙ binds_none c.args.places.now

pub loop-leaf-preserved : goal.loop-leaf-preserved
loop-leaf-preserved c =
    let f : LeafPath → Leaf = λ leaf. value_at_leaf c.args.leaves.now c.args.values.now leaf in
    let none : LeafPath = record { field = 0; position = None; sub = 0 } in
    one_more f c.args.places.now c.args.others.now c.loop-leaf.leaf-index none c.loop-leaf.binds c.bind_next.new.binds
    c.in_ok-value.value c.loop-leaf-test.true c.loop-leaf.invariant c.in_ok-value.ensures c.in_ok-bind_next.ensures

pub returns : goal.returns
returns c =
    let f : LeafPath → Leaf = λ leaf. value_at_leaf c.args.leaves.now c.args.values.now leaf in
    let ends = c.loop-leaf-test.false in
    c.loop-leaf.invariant
    ∙ ap (λ xs. binds_of c.args.places.now (map f xs))
    (take_all c.loop-leaf.leaf-index c.args.others.now (omega (arith, ends)))
