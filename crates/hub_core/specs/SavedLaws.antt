-- What a flat form asks of a live configuration.
use Rattle.std.specs.Prelude.{◌≤◌, length}
use Rattle.std.proofs.Common.{arith}
use Rattle.flat_form.specs.Savable.{AreSavable}
use Rattle.flat_form.specs.Weight.{most_items}
use Rattle.hub_core.specs.CarriedConfigs.{Saved}
use Rattle.hub_core.specs.SavedConfigs.{carried_items, IsCarried, IsSavableConfig, carried_entries}

-- its items are no more than those that are counted
pub carried_bounded : (it : Saved) → IsCarried it → length (carried_items it) ≤ most_items 0 (carried_entries it)
carried_bounded it valid = omega arith

-- and no fewer
pub carried_few : (it : Saved) → carried_entries it ≤ length (carried_items it)
carried_few it = omega arith

-- they can be spelled where they can be spelled
pub carried_spells : (it : Saved) → IsCarried it → IsSavableConfig it → AreSavable (carried_items it)
carried_spells it valid can = can
