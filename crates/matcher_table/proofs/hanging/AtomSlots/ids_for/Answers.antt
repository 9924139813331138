use Rattle.std.proofs.Common.{◌≡◌, ◌<◌, ℕ, List, Some, subst, sym, ap, ◌∙◌}
use Rattle.matcher_table.specs.declared.shared.SharedMatcher.{SharedMatcher}
use Rattle.matcher_table.specs.Slots.{children_of, times_among}
use Rattle.matcher_table.proofs.hanging.AtomSlots.ids_for.Goals as goal

pub returns-in_ok-add_ids_of-in-Combination-clause-children
    : goal.returns-in_ok-add_ids_of-in-Combination-clause-children
returns-in_ok-add_ids_of-in-Combination-clause-children c s id named =
    let same : children_of (Some c.args.shared.now) ≡ c.as_slice.result.now =
    ap (λ (shared : SharedMatcher). children_of (Some shared)) c.in-Combination.is ∙ sym c.as_slice.ensures in
    c.in_ok-add_ids_of-in-Combination.ensures.added s id
    (subst (λ (xs : List ℕ). 0 < times_among s xs) same named)
