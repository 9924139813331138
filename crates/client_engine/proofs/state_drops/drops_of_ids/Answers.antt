-- The drops of one id after the other.
use Rattle.std.proofs.Common.{◌∙◌, ◌++◌, get_or, sym, ap, arith, append-nil, SFits, w64, rules}
use Rattle.std.specs.List.{flat_map}
use Rattle.std.proofs.lemmas.List.{drop_all, get_or_default}
use Rattle.std.proofs.lemmas.Int.{to_z-of_z}
use Rattle.metric_meaning.specs.PredicateSteps.{drop_above_zero}
use Rattle.metric_meaning.specs.StateDrops.{drop_of_id}
use Rattle.client_engine.proofs.StateDropsLemmas.{drops_on}
use Rattle.client_engine.proofs.state_drops.drops_of_ids.Goals as goal

-- one more
pub loop-id-preserved : goal.loop-id-preserved
loop-id-preserved c = λ log stands.
    let fits : SFits w64 c.from.result = search rules in
    let ids = c.args.ids.now in
    let index = c.loop-id.id-index in
    let id = get_or ids index 0 in
    let from = c.from.ensures in
    drops_on log ids index id c.loop-id.drops c.add_if_any.new.drops
    c.dropped.result (omega arith) (get_or_default ids index 0 id (omega arith)) (c.loop-id.invariant log stands)
    (c.dropped.ensures.answers log stands)
    (c.in_ok-add_if_any.ensures
    ∙ ap (λ id. c.loop-id.drops ++ drop_above_zero (record { id = id; number = c.dropped.result }))
    (to_z-of_z w64 c.from.result fits ∙ c.from.ensures))

-- all
pub returns : goal.returns
returns c = λ log stands.
    let ends = c.loop-id-test.false in
    sym (append-nil c.loop-id.drops)
    ∙ ap (λ l. c.loop-id.drops ++ flat_map (drop_of_id log) l)
    (sym (drop_all c.loop-id.id-index c.args.ids.now (omega (arith, ends))))
    ∙ c.loop-id.invariant log stands
