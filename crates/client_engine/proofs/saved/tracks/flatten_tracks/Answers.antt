-- The number of the tracks stands after the old items, and their items after it.
use Rattle.std.proofs.Common.{[], ◌∷◌, length}
use Rattle.std.proofs.lemmas.Result.{on_ok_weaker, on_err_weaker}
use Rattle.flat_form.specs.declared.item.Item.TheVariants.{Num}
use Rattle.known_conditions.proofs.SavedListsLemmas.{adds_two, front_before}
use Rattle.client_engine.proofs.saved.tracks.flatten_tracks.Goals as goal

pub returns-clause-added : goal.returns-clause-added
returns-clause-added c =
    on_ok_weaker c.flatten_each.result (λ added. adds_two _ _ _ (Num (length c.args.tracks.now) ∷ []) _
    c.in_ok-push.ensures.added added) c.flatten_each.ensures.added

pub returns-clause-err : goal.returns-clause-err
returns-clause-err c = on_err_weaker c.flatten_each.result
    (λ front. front_before _ _ _ _ c.in_ok-push.ensures.added front) c.flatten_each.ensures.err
