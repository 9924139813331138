-- The items that are held as they are can be spelled, as all can.
use Rattle.std.proofs.Common.{subst}
use Rattle.flat_form.specs.Savable.{IsSavable, AreSavable}
use Rattle.flat_form.proofs.FitsLemmas.{all_later}
use Rattle.flat_form.proofs.range.fit_items.Goals as goal

pub fit_all-requires : goal.fit_all-requires
fit_all-requires c =
    all_later IsSavable c.parts.result.0.now c.parts.result.1.now (subst AreSavable c.parts.ensures c.requires)
