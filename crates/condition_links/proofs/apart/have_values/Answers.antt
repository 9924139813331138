-- Where no value is left, all were there.
use Rattle.std.proofs.Common.{drop, map, sym, ap, ◌∙◌, arith}
use Rattle.std.proofs.lemmas.List.{drop_all}
use Rattle.predicate_state.specs.PredicateTruths.{agrees}
use Rattle.condition_links.specs.LinkBinds.{binds_of, value_at_leaf}
use Rattle.condition_links.proofs.BindsLemmas.{binds_none}
use Rattle.condition_links.proofs.apart.have_values.Goals as goal

pub returns : goal.returns
returns c =
    let ends = c.loop-turn-test.false in
    let left = drop c.loop-turn.turn c.args.places.now in
    ap (λ binds. agrees binds c.args.other.now) (binds_none left)
    ∙ sym (ap (λ leaves. agrees (binds_of left
    (map (λ leaf. value_at_leaf c.args.inner.now c.args.key.now leaf) leaves)) c.args.other.now)
    (drop_all c.loop-turn.turn c.args.leaves.now (omega (arith, ends))))
    ∙ c.loop-turn.invariant
