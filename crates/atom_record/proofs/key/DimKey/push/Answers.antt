-- One leaf more, missing or kept.
use Rattle.std.proofs.Common.{◌≡◌, ◌+◌, ◌-◌, ◌^◌, ◌∷◌, ◌∙◌, [], arith}
use Rattle.std.proofs.lemmas.Grind.{common_steps}
use Rattle.atom_record.specs.declared.key.Present.{Present}
use Rattle.atom_record.proofs.SparseLemmas.{leaf_added, still_held, missing_added, missing_held, one_kept, spread_length}
use Rattle.atom_record.proofs.key.DimKey.push.Goals as goal

pub invariant_of-self : goal.invariant_of-self
invariant_of-self c =
    let count = c.self.inside.count in
    let kept = c.self.inside.present.items in
    let more : c.in-Some.count ≡ count + 1 = grind (arith, common_steps) in
    rw more (missing_held count kept c.self.invariant)

pub returns-in-Missing-clause-added : goal.returns-in-Missing-clause-added
returns-in-Missing-clause-added c =
    let count = c.self.inside.count in
    let kept = c.self.inside.present.items in
    let more : c.in-Some.count ≡ count + 1 = grind (arith, common_steps) in
    rw (more, c.in-Missing.is, ← c.self.view_is) (missing_added count kept c.self.invariant)

pub invariant_of-self-2 : goal.invariant_of-self-2
invariant_of-self-2 c =
    let count = c.self.inside.count in
    let kept = c.self.inside.present.items in
    let more : c.in-Some.count ≡ count + 1 = grind (arith, common_steps) in
    let one : Present = record { place = count; leaf = c.args.leaf } in
    rw (more, c.in_ok-push.ensures.items)
    (still_held count kept c.self.invariant c.args.leaf (one ∷ [])
    (one_kept count c.args.leaf c.in_default-leaf.not-Missing))

pub returns : goal.returns
returns c =
    let count = c.self.inside.count in
    let kept = c.self.inside.present.items in
    let more : c.in-Some.count ≡ count + 1 = grind (arith, common_steps) in
    let one : Present = record { place = count; leaf = c.args.leaf } in
    record {
      added = rw (more, c.in_ok-push.ensures.items, ← c.self.view_is)
          (leaf_added count kept c.self.invariant c.args.leaf (one ∷ [])
          (one_kept count c.args.leaf c.in_default-leaf.not-Missing));
      missing = λ is. absurd (c.in_default-leaf.not-Missing is);
      err = tt;
    }

-- the count of leaves stands at its type's end
pub returns-in_default-clause-missing : goal.returns-in_default-clause-missing
returns-in_default-clause-missing c = λ is.
    let count = c.self.inside.count in
    let within = c.self.ranges in
    let last : count ≡ 2 ^ 64 - 1 = grind (arith, common_steps) in
    rw (← c.self.view_is) (spread_length count 0 c.self.inside.present.items ∙ last)
