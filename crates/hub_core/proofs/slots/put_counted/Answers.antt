-- Its client has one of this id, and as many others as before.
use Rattle.std.proofs.Common.{SFits, w32, rules, ◌≡◌, ◌+◌, cond, is_some, ap, ◌∙◌}
use Rattle.std.specs.Ordering.{int_eq}
use Rattle.std.proofs.lemmas.Int.{to_z-of_z}
use Rattle.std.proofs.lemmas.Result.{on_ok_weaker}
use Rattle.hub_core.specs.Slots.{slot_at, listed, listed_at, others_at}
use Rattle.hub_core.proofs.slots.put_counted.Goals as goal

pub returns-clause-counts : goal.returns-clause-counts
returns-clause-counts c =
    let uid_fits : SFits w32 c.args.name.uid = search rules in
    let counts = c.args.rows.now.counts.entries in
    let set = simp to_z-of_z at c.in_ok-set_count.ensures in
    let is = simp to_z-of_z at c.others_of-others.ensures in
    let same : c.others_of-others.result
    ≡ others_at c.args.name.uid (is_some (slot_at c.args.name c.args.rows.now.slots.entries)) counts =
    is ∙ ap (λ b. others_at c.args.name.uid b counts) c.contains_key-there.ensures in
    on_ok_weaker c.put.result
    (λ _. λ client.
    set client ∙ ap (λ n. cond (int_eq c.args.name.uid client) (listed (n + 1)) (listed_at client counts)) same)
    c.put.ensures.entries
