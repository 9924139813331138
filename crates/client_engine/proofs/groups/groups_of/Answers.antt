use Rattle.std.proofs.Common.{List, ◌∙◌, ◌++◌, ◌∷◌, [], sym, ap, map, append_assoc}
use Rattle.std.proofs.lemmas.List.{append-nil, map-append}
use Rattle.client_engine.specs.Groups.{row_shown, row_group, group_tree}
use Rattle.client_engine.proofs.GroupsLemmas.{groups_shown}
use Rattle.client_engine.proofs.groups.groups_of.Goals as goal

-- one more group is shown
pub loop-group-preserved : goal.loop-group-preserved
loop-group-preserved g c =
    let tree = group_tree g.S.RowShape.tree in
    let done = c.loop-group.invariant.0 in
    let group : _ × List _ = (c.in-Some.group, c.in-Some.buckets) in (
      done ++ group ∷ [],
      c.loop-group.invariant.1 ∙ ap (λ l. done ++ l) c.in-Some.ensures.steps
          ∙ sym (append_assoc done (group ∷ []) c.next.new.self),
      c.in_ok-push.ensures.added ∙ ap (λ trees. trees ++ c.in_ok-tree.field-0 ∷ []) c.loop-group.invariant.2
          ∙ ap (λ t. map tree done ++ t ∷ []) c.in_ok-tree.ensures
          ∙ sym (map-append tree done (group ∷ [])),
    )

-- all groups are shown
pub returns : goal.returns
returns g c =
    let tree = g.S.RowShape.tree in
    let done = c.loop-group.invariant.0 in
    let gives = c.into_iter-group-iterator.ensures.into_iter_gives.0 in
    c.loop-group.invariant.2
    ∙ ap (map (group_tree tree))
    (sym (append-nil done) ∙ ap (λ l. done ++ l) (sym c.in-None.ensures.steps.0) ∙ sym c.loop-group.invariant.1
    ∙ gives ∙ c.in_ok-groups.ensures)
    ∙ groups_shown g.S.Group.PartialEq.eq (row_group g.S.RowShape.group_of) tree
    (row_shown g.S.RowShape.bucket) c.args.rows
