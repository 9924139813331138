-- One predicate after the other.
use Rattle.std.proofs.Common.{◌++◌, ◌∷◌, [], length, ap, ◌∙◌, arith}
use Rattle.known_conditions.specs.Touchers.{touchers, all_touchers}
use Rattle.known_conditions.proofs.TouchersLemmas.{maps_first, maps_on, maps_all}
use Rattle.known_conditions.proofs.touchers.touchers_of_all.Goals as goal

-- none yet
pub loop-root-init : goal.loop-root-init
loop-root-init c =
    let predicates = c.args.predicates.now in
    maps_first (touchers predicates) (length predicates) c.new-lists.result c.new-lists.ensures

-- one more
pub loop-root-preserved : goal.loop-root-preserved
loop-root-preserved c =
    let predicates = c.args.predicates.now in
    maps_on (touchers predicates) c.loop-root.root (length predicates) c.loop-root.lists (all_touchers predicates)
    c.push.new.self (omega arith) c.loop-root.invariant
    (c.in_ok-push.ensures.added ∙ ap (λ list. c.loop-root.lists ++ list ∷ []) c.in_ok-list.ensures)

-- all
pub returns : goal.returns
returns c =
    let predicates = c.args.predicates.now in
    let ends = c.loop-root-test.false in
    maps_all (touchers predicates) c.loop-root.root (length predicates) c.loop-root.lists (all_touchers predicates)
    (omega (arith, ends)) c.loop-root.invariant
