-- The number of the values stands after the old items, and their items after it.
use Rattle.std.proofs.Common.{[], ◌∷◌, length}
use Rattle.std.proofs.lemmas.Result.{on_ok_weaker, on_err_weaker}
use Rattle.flat_form.specs.declared.item.Item.TheVariants.{Num}
use Rattle.known_conditions.proofs.SavedListsLemmas.{adds_two, front_before}
use Rattle.known_conditions.proofs.flat_lists.flatten_list.Goals as goal

pub returns-clause-added : goal.returns-clause-added
returns-clause-added g c =
    on_ok_weaker c.flatten_each.result (λ added. adds_two _ _ _ (Num (length c.args.all.now) ∷ []) _
    c.in_ok-push.ensures.added added) c.flatten_each.ensures.added

pub returns-clause-err : goal.returns-clause-err
returns-clause-err g c = on_err_weaker c.flatten_each.result
    (λ front. front_before _ _ _ _ c.in_ok-push.ensures.added front) c.flatten_each.ensures.err
