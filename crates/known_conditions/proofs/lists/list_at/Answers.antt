use Rattle.std.proofs.Common.{◌≡◌, ◌∙◌, ◌++◌, [], ◌∷◌, true, set, ap, subst, sym}
use Rattle.std.proofs.lemmas.Result.{on_ok_weaker}
use Rattle.known_conditions.specs.Lists.{KeepsListed, stands_under}
use Rattle.known_conditions.proofs.ListsLemmas.{kept_through, kept_with_place, listed_with_place}
use Rattle.known_conditions.proofs.MarksLemmas.{get_or_any}
use Rattle.known_conditions.proofs.lists.list_at.Goals as goal

-- what was listed still is
pub returns-clause-kept : goal.returns-clause-kept
returns-clause-kept c =
    let lists = c.make_room.new.lists.items in
    let room = c.in_ok-make_room.ensures.room in
    on_ok_weaker c.push.result
    (λ added. kept_through c.args.lists.now.items lists _ c.in_ok-make_room.ensures.kept
    (subst (λ list. KeepsListed lists (set lists c.args.key list))
    (sym (added ∙ ap (λ l. l ++ c.args.place ∷ []) (c.index_mut.ensures.value
    ∙ get_or_any lists c.args.key c.index_mut.result.now [] room)))
    (kept_with_place lists c.args.key c.args.place room)))
    c.push.ensures.added

-- and the place is
pub returns-clause-listed : goal.returns-clause-listed
returns-clause-listed c =
    let lists = c.make_room.new.lists.items in
    let room = c.in_ok-make_room.ensures.room in
    on_ok_weaker c.push.result
    (λ added. subst (λ list. stands_under (set lists c.args.key list) c.args.key c.args.place ≡ true)
    (sym (added ∙ ap (λ l. l ++ c.args.place ∷ []) (c.index_mut.ensures.value
    ∙ get_or_any lists c.args.key c.index_mut.result.now [] room)))
    (listed_with_place lists c.args.key c.args.place room))
    c.push.ensures.added
