-- The items that are held as they are can be spelled, as all can.
use Rattle.std.proofs.Common.{subst}
use Rattle.flat_form.specs.Savable.{IsSavable, AreSavable}
use Rattle.flat_form.proofs.FitsLemmas.{all_later}
use Rattle.flat_form.proofs.encode.encode_items.Goals as goal

pub encode_all-requires : goal.encode_all-requires
encode_all-requires c =
    rw c.deref.ensures.value (all_later IsSavable c.into_parts-spelled.result.0 c.into_parts-spelled.result.1.items
    (subst AreSavable c.into_parts-spelled.ensures c.requires))
