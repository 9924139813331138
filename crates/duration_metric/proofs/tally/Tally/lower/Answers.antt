-- A count that is there is one lower.
use Rattle.std.proofs.Common.{◌≡◌, [], ◌∷◌, Some, arith, ap, refl, subst}
use Rattle.std.specs.Prelude.{IsSome}
use Rattle.std.specs.Option.{unwrap_or}
use Rattle.duration_metric.specs.Tallies.{tally_at, Lowers, NewZeros}
use Rattle.duration_metric.proofs.TallyStepLemmas.{lowers_by, lowered_zeros, lowers_none}
use Rattle.duration_metric.proofs.tally.Tally.lower.Goals as goal

pub returns-in_default-clause-counts : goal.returns-in_default-clause-counts
returns-in_default-clause-counts c =
    lowers_none c.args.self.now c.self.inside.counts.entries _ c.args.key.now c.self.view_is
    (ap (λ (map : _). map.entries) c.get_mut.follows.holds-at-none) c.in_default.ensures.value

pub returns-clause-counts : goal.returns-clause-counts
returns-clause-counts c =
    let old = c.self.inside.counts.entries in
    let key = c.args.key.now in
    let less = c.saturating_sub.result in
    let new = (c.get_mut.follows.lender less).entries in
    let count : c.in-Some.count.now ≡ tally_at old key = ap (λ found. unwrap_or found 0) c.in-Some.ensures.value in
    subst (λ l. Lowers l new key) c.self.view_is
    (lowers_by old new key (Some less)
    (((c.get_mut.follows.holds less).3 (subst IsSome c.in-Some.ensures.value refl)).0)
    (omega (arith, count, c.saturating_sub.ensures)))

pub returns-clause-zeros : goal.returns-clause-zeros
returns-clause-zeros c =
    let less = c.saturating_sub.result in
    let new = (c.get_mut.follows.lender less).entries in
    subst (λ l. NewZeros l new (c.args.key.now ∷ [])) c.self.view_is
    (lowered_zeros c.self.inside.counts.entries new c.args.key.now (Some less)
    (((c.get_mut.follows.holds less).3 (subst IsSome c.in-Some.ensures.value refl)).0))
