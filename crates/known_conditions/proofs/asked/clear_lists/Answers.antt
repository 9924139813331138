-- One list more is empty.
use Rattle.std.proofs.Common.{◌≡◌, ℕ, ◌+◌, ◌<◌, List, [], ◌∷◌, ◌++◌, length, replicate, set, take, refl, sym, ap, ◌∙◌, arith}
use Rattle.std.proofs.lemmas.List.{length-set, take_more_set, take_all, replicate-append-replicate}
use Rattle.known_conditions.proofs.asked.clear_lists.Goals as goal

-- one more of these is empty
one_more : {X : Type 0} (xs : List (List X)) (at : ℕ) → at < length xs → take at xs ≡ replicate at []
    → take (at + 1) (set xs at []) ≡ replicate (at + 1) []
one_more xs at within so_far =
    take_more_set xs at [] within
    ∙ ap (λ l. l ++ [] ∷ []) so_far
    ∙ replicate-append-replicate at 1 []

pub loop-at-init : goal.loop-at-init
loop-at-init c = (refl, refl)

pub loop-at-preserved : goal.loop-at-preserved
loop-at-preserved c =
    let same = c.loop-at.invariant.0 in
    let turn = c.loop-at-test.true in
    let within : c.loop-at.at < length c.loop-at.binds.items = omega (arith, same, turn) in (
      length-set c.loop-at.binds.items c.loop-at.at c.clear.new.self ∙ same,
      ap (λ l. take (c.loop-at.at + 1) (set c.loop-at.binds.items c.loop-at.at l)) c.clear.ensures
          ∙ one_more c.loop-at.binds.items c.loop-at.at within c.loop-at.invariant.1,
    )

pub returns : goal.returns
returns c =
    let same = c.loop-at.invariant.0 in
    let ends = c.loop-at-test.false in
    let most = c.loop-at.auto.at-end in
    let all : c.loop-at.at ≡ length c.args.binds.now.items = omega (arith, ends, most) in
    sym (take_all c.loop-at.at c.loop-at.binds.items (omega (arith, same, ends)))
    ∙ c.loop-at.invariant.1
    ∙ ap (λ n. replicate n []) all
