-- An instance takes no more than its history weighs, and with its name and its bytes no more than what is live weighs.
use Rattle.std.proofs.Common.{◌∷◌, refl, arith}
use Rattle.client_engine.specs.SavedInstances.{instance_items}
use Rattle.flat_form.specs.Bounded.{items_bounded}
use Rattle.flat_form.specs.declared.item.Item.TheVariants.{Num, Chunk}
use Rattle.hub_meaning.specs.LiveConfigs.{install_bytes}
use Rattle.hub_meaning.specs.SessionLog.{own}
use Rattle.saved_length.proofs.HubWithin.{live_fits}
use Rattle.saved_length.proofs.InstanceWithin.{instance_within}
use Rattle.saved_length.proofs.short.saved_forms_are_short.Goals as goal

pub returns-clause-instances : goal.returns-clause-instances
returns-clause-instances c = λ it history stands saved. instance_within it history stands saved.tracks

pub returns-clause-lives : goal.returns-clause-lives
returns-clause-lives c = λ says frames uid config one other it stands saved.
    let bytes = install_bytes (own uid frames) config in
    let fits = live_fits says frames uid config one other bytes it refl stands saved.tracks in
    let spelled = items_bounded (Num one ∷ Num other ∷ Chunk bytes ∷ instance_items it) in
    omega (arith, fits, spelled)
