-- A key for which none counts may be there, or not.
use Rattle.std.proofs.Common.{◌≡◌, [], ◌∷◌, arith, ap, subst}
use Rattle.duration_metric.specs.Tallies.{tally_at, CountsSame, Forgets}
use Rattle.duration_metric.proofs.TallyStepLemmas.{same_by, forgot_zeros, counted_zeros}
use Rattle.duration_metric.proofs.tally.Tally.forget.Goals as goal

pub returns-then-count-eq0-clause-counts : goal.returns-then-count-eq0-clause-counts
returns-then-count-eq0-clause-counts c =
    let old = c.self.inside.counts.entries in
    let new = c.swap_remove-count.new.self.entries in
    let key = c.args.key.now in
    let none : tally_at old key ≡ 0 =
    omega (arith, ap (λ l. tally_at l key) c.self.view_is, c.count.ensures, c.if-count-eq0.true) in
    subst (λ l. CountsSame l new) c.self.view_is
    (same_by old new key c.swap_remove-count.ensures.updates.0 none)

pub returns-then-count-eq0-clause-zeros : goal.returns-then-count-eq0-clause-zeros
returns-then-count-eq0-clause-zeros c =
    let old = c.self.inside.counts.entries in
    let new = c.swap_remove-count.new.self.entries in
    let key = c.args.key.now in
    subst (λ l. Forgets l new (key ∷ []) []) c.self.view_is
    (forgot_zeros old new key c.swap_remove-count.ensures.updates.0)

pub returns-else-count-eq0-clause-zeros : goal.returns-else-count-eq0-clause-zeros
returns-else-count-eq0-clause-zeros c =
    counted_zeros c.args.self.now c.args.key.now (λ none. omega (arith, c.count.ensures, c.if-count-eq0.false, none))
