-- The row's group has a bucket more, or is new.
use Rattle.std.proofs.Common.{sym, ap, ◌∙◌, ◌++◌, ◌∷◌, []}
use Rattle.std.proofs.lemmas.Result.{on_ok_weaker}
use Rattle.dim_table.proofs.KeyLemmas.{inserted}
use Rattle.indexmap.specs.Layout.{set_value_at}
use Rattle.client_engine.specs.Groups.{row_shown, row_group}
use Rattle.client_engine.proofs.GroupsLemmas.{adds_there, adds_new}
use Rattle.client_engine.proofs.groups.add_row.Goals as goal

-- the group is there
pub returns-in-Some : goal.returns-in-Some
returns-in-Some g c =
    let index = rw (c.group_of-group.ensures) at c.in-Some.ensures.index in
    on_ok_weaker c.add_bucket.result
    (λ adds. adds_there g.S.Group.PartialEq.eq g.met.S.RowShape.exact (row_group g.S.RowShape.group_of)
    (row_shown g.S.RowShape.bucket) c.args.groups.now.entries c.add_bucket.new.groups.entries c.args.row
    c.in-Some.place (sym index)
    (λ buckets at. adds buckets at
    ∙ ap (λ bucket. set_value_at c.args.groups.now.entries c.in-Some.place (buckets ++ bucket ∷ []))
    c.in_ok-bucket.ensures)) c.add_bucket.ensures

-- the group is new
pub returns-in_ok-insert-in-None : goal.returns-in_ok-insert-in-None
returns-in_ok-insert-in-None g c =
    let index = rw (c.group_of-group.ensures) at c.in-None.ensures.index in
    adds_new g.S.Group.PartialEq.eq g.met.S.RowShape.exact (row_group g.S.RowShape.group_of)
    (row_shown g.S.RowShape.bucket) c.args.groups.now.entries c.insert.new.self.entries c.args.row (sym index)
    (inserted g.S.Group.PartialEq.eq g.met.S.RowShape.exact c.args.groups.now c.insert.new.self.entries
    c.group_of-group.result c.push.new.self (sym c.in-None.ensures.index)
    c.in_ok-insert-in-None.ensures.entries
    ∙ ap (λ buckets. c.args.groups.now.entries ++ (c.group_of-group.result, buckets) ∷ [])
    (c.in_ok-push-in-None.ensures.added ∙ ap (λ buckets. buckets ++ c.in_ok-bucket.bucket ∷ []) c.new-first.ensures
    ∙ ap (λ bucket. bucket ∷ []) c.in_ok-bucket.ensures)
    ∙ ap (λ group. c.args.groups.now.entries
    ++ (group, row_shown g.S.RowShape.bucket c.args.row ∷ []) ∷ []) c.group_of-group.ensures)
