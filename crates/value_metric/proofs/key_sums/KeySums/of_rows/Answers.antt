-- One row more is added, or its key comes twice.
use Rattle.std.proofs.Common.{◌≡◌, true, false, [], ◌∷◌, ◌++◌, length, Contains, to_z, of_z, rules, arith, sym, ap, subst, ◌∙◌}
use Rattle.std.specs.Int.{w128}
use Rattle.std.specs.Map.{keys_of}
use Rattle.std.specs.Vec.Iter.{into_iter_items, into_iter_len}
use Rattle.std.proofs.lemmas.Int.{to_z-of_z}
use Rattle.std.proofs.lemmas.List.{map-id}
use Rattle.std.proofs.lemmas.Iterator.Adapters.{YieldsList-from_vec}
use Rattle.std.proofs.lemmas.Iterator.Consumers.{YieldsList-so_far, YieldsList-turn}
use Rattle.flat_form.specs.Flat.{IsLong}
use Rattle.value_metric.specs.SumsItems.{AddsOwnRow}
use Rattle.value_metric.proofs.SumsItemsLemmas.{own_more, own_twice}
use Rattle.value_metric.proofs.key_sums.KeySums.of_rows.Goals as goal

-- the key comes twice
pub returns-then-not-branch : goal.returns-then-not-branch
returns-then-not-branch c =
    let items : into_iter_items c.into_iter-key-iterator.result ≡ c.args.rows = cc in
    let count : into_iter_len c.into_iter-key-iterator.result ≡ length c.args.rows = grind arith in
    let road = YieldsList-from_vec {s = c.into_iter-key-iterator.result} c.args.rows items count in
    let so_far = YieldsList-so_far road c.loop-key.yielded c.loop-key.key-iterator c.loop-key.yielded_by in
    let turn = YieldsList-turn road c.loop-key.yielded c.loop-key.key-iterator c.loop-key.yielded_by c.next.result
    c.next.new.self (c.in-Some.key, c.in-Some.sum) c.in-Some.is c.next.ensures.steps in
    let no : c.in_ok-add_own.field-0 ≡ false = grind arith in
    let had : Contains (keys_of c.loop-key.sums) c.in-Some.key =
    subst (AddsOwnRow c.loop-key.sums c.add_own.new.self c.in-Some.key (to_z w128 (of_z w128 c.in-Some.sum))) no
    c.in_ok-add_own.ensures in
    own_twice c.args.rows c.loop-key.yielded (c.in-Some.key, c.in-Some.sum)
    (sym (map-id c.loop-key.yielded) ∙ so_far) turn.0 turn.1
    (subst (λ l. Contains (keys_of l) c.in-Some.key) c.loop-key.invariant.0 had)

-- the row is added
pub loop-key-preserved : goal.loop-key-preserved
loop-key-preserved c =
    let fits : IsLong c.in-Some.sum = search rules in
    let yes : c.in_ok-add_own.field-0 ≡ true = grind arith in
    let added = subst (AddsOwnRow c.loop-key.sums c.add_own.new.self c.in-Some.key
    (to_z w128 (of_z w128 c.in-Some.sum)))
    yes c.in_ok-add_own.ensures in (
      added.1 ∙ ap (λ n. c.loop-key.sums ++ (c.in-Some.key, n) ∷ []) (to_z-of_z w128 c.in-Some.sum fits)
          ∙ ap (λ l. l ++ (c.in-Some.key, c.in-Some.sum) ∷ []) c.loop-key.invariant.0,
      own_more c.loop-key.yielded c.in-Some.key c.in-Some.sum c.loop-key.invariant.1
          (subst (λ l. ¬ Contains (keys_of l) c.in-Some.key) c.loop-key.invariant.0 added.0),
    )
