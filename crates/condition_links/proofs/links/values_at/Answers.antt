-- One leaf more.
use Rattle.std.proofs.Common.{◌≡◌, ℕ, ◌+◌, ◌<◌, None, List, [], ◌∷◌, ◌++◌, length, map, drop, get_or, sym, ap, ◌∙◌, append_assoc}
use Rattle.std.proofs.lemmas.List.{at_drop_more}
use Rattle.atom_record.specs.declared.value.Leaf.{Leaf}
use Rattle.field_select.specs.declared.leaf.LeafPath.{LeafPath}
use Rattle.condition_links.specs.LinkBinds.{value_at_leaf}
use Rattle.condition_links.proofs.links.values_at.Goals as goal

-- what is made of one element more, before what is made of those that are left
one_more : {X Y : Type 0} (f : X → Y) (xs : List X) (i : ℕ) (d : X) (made new : List Y) (value : Y) → i < length xs
    → new ≡ made ++ value ∷ [] → value ≡ f (get_or xs i d) → made ++ map f (drop i xs) ≡ map f xs
    → new ++ map f (drop (i + 1) xs) ≡ map f xs
one_more f xs i d made new value within added is all =
    ap (λ l. l ++ map f (drop (i + 1) xs)) added
    ∙ ap (λ v. (made ++ v ∷ []) ++ map f (drop (i + 1) xs)) is
    ∙ append_assoc made (f (get_or xs i d) ∷ []) (map f (drop (i + 1) xs))
    ∙ ap (λ l. made ++ l) (sym (at_drop_more (map f) xs i d within))
    ∙ all

pub loop-leaf-preserved : goal.loop-leaf-preserved
loop-leaf-preserved c =
    let f : LeafPath → Leaf = λ leaf. value_at_leaf c.args.leaves.now c.args.values.now leaf in
    let none : LeafPath = record { field = 0; position = None; sub = 0 } in
    one_more f c.args.others.now c.loop-leaf.leaf-index none c.loop-leaf.key c.push.new.self c.in_ok-value.value
    c.loop-leaf-test.true c.in_ok-push.ensures.added c.in_ok-value.ensures c.loop-leaf.invariant
