-- The number of the values stands after the old items, and their items after it.
use Rattle.std.proofs.Common.{[], ◌∷◌, length}
use Rattle.std.proofs.lemmas.Result.{on_ok_weaker, on_err_weaker}
use Rattle.flat_form.specs.declared.item.Item.TheVariants.{Num}
use Rattle.flat_form.proofs.AddedLemmas.{adds_two, front_before}
use Rattle.flat_form.proofs.flat.SeqFlat.flatten.Goals as goal

pub returns-clause-added : goal.returns-clause-added
returns-clause-added g c =
    let number = rw c.len.ensures at c.in_ok-push.ensures.added in
    on_ok_weaker c.flatten_all.result (λ added. adds_two _ _ _ (Num (length c.args.self.now) ∷ []) _ number added)
    (rw c.as_slice.ensures at c.flatten_all.ensures.added)

pub returns-clause-valid : goal.returns-clause-valid
returns-clause-valid g c = rw c.as_slice.ensures at c.flatten_all.ensures.valid

pub returns-clause-err : goal.returns-clause-err
returns-clause-err g c = on_err_weaker c.flatten_all.result
    (λ front. front_before _ _ _ _ c.in_ok-push.ensures.added front) c.flatten_all.ensures.err
