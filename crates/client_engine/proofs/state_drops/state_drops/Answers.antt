-- The drops of the ids that were found.
use Rattle.std.proofs.Common.{◌∙◌, ap}
use Rattle.std.specs.List.{flat_map}
use Rattle.std.proofs.lemmas.Result.{IfOk-weaker}
use Rattle.metric_meaning.specs.StateDrops.{drop_of_id}
use Rattle.client_engine.proofs.state_drops.state_drops.Goals as goal

pub returns : goal.returns
returns c = λ log stands.
    IfOk-weaker c.drops_of_ids.result _ _ (λ drops is. is ∙ ap (flat_map (drop_of_id log))
    (c.as_slice.ensures.value ∙ c.in_ok-ids.ensures)) (c.drops_of_ids.ensures log stands)
