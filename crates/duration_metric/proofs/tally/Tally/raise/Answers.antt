-- A count that is there is one higher.
use Rattle.std.proofs.Common.{◌≡◌, ◌+◌, [], Some, arith, ap, refl, subst}
use Rattle.std.specs.Prelude.{IsSome}
use Rattle.std.specs.Option.{unwrap_or}
use Rattle.duration_metric.specs.Tallies.{tally_at, Raises, NewZeros}
use Rattle.duration_metric.proofs.TallyStepLemmas.{raises_by, raised_zeros, raises_first}
use Rattle.duration_metric.proofs.tally.Tally.raise.Goals as goal

pub returns-in_default-clause-counts : goal.returns-in_default-clause-counts
returns-in_default-clause-counts c =
    raises_first c.args.self.now c.self.inside.counts.entries _ _ c.args.key.now _ c.self.view_is
    (ap (λ (map : _). map.entries) c.get_mut.follows.holds-at-none) c.in_default.ensures.value
    c.in_ok-clone_key.ensures c.in_ok-insert.ensures.updates.0

pub returns-clause-counts : goal.returns-clause-counts
returns-clause-counts c =
    let old = c.self.inside.counts.entries in
    let key = c.args.key.now in
    let now = c.in-Some.count.now + 1 in
    let new = (c.get_mut.follows.lender now).entries in
    let count : c.in-Some.count.now ≡ tally_at old key = ap (λ found. unwrap_or found 0) c.in-Some.ensures.value in
    subst (λ l. Raises l new key) c.self.view_is
    (raises_by old new key (Some now)
    (((c.get_mut.follows.holds now).3 (subst IsSome c.in-Some.ensures.value refl)).0) (omega (arith, count)))

pub returns-clause-zeros : goal.returns-clause-zeros
returns-clause-zeros c =
    let now = c.in-Some.count.now + 1 in
    let new = (c.get_mut.follows.lender now).entries in
    subst (λ l. NewZeros l new []) c.self.view_is
    (raised_zeros c.self.inside.counts.entries new c.args.key.now now
    (((c.get_mut.follows.holds now).3 (subst IsSome c.in-Some.ensures.value refl)).0) (omega arith))
