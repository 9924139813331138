use Rattle.std.proofs.Common.{◌≡◌, ◌≤◌, ℕ, List, subst, sym, ap, ◌∙◌}
use Rattle.matcher_table.specs.Slots.{times_among}
use Rattle.matcher_table.proofs.HangingLaws.{once_pushed}
use Rattle.matcher_table.proofs.id_lists.add_if_missing.Goals as goal

pub returns-clause-once : goal.returns-clause-once
returns-clause-once c =
    let ids = c.args.ids.now in
    let none : times_among c.args.id ids ≡ 0 =
    sym (ap (times_among c.args.id) c.as_slice.ensures) ∙ c.has_id.ensures.absent c.if-has_id.false in
    subst (λ (xs : List ℕ). (other : ℕ) → times_among other xs ≤ 1) (sym c.in_ok-push.ensures.added)
    (once_pushed c.args.id ids c.requires none)

pub returns-in_err-push-clause-once : goal.returns-in_err-push-clause-once
returns-in_err-push-clause-once c =
    subst (λ (xs : List ℕ). (other : ℕ) → times_among other xs ≤ 1) (sym c.in_err-push.ensures.err) c.requires
