-- What stands at a leaf's place, and nothing where it has none.
use Rattle.std.proofs.Common.{ap}
use Rattle.std.proofs.Common.{slice_get}
use Rattle.std.specs.Option.{option_and_then}
use Rattle.condition_links.specs.LinkBinds.{leaf_or_missing}
use Rattle.condition_links.proofs.links.read_value.Goals as goal

pub returns-in-None : goal.returns-in-None
returns-in-None c =
    ap (λ place. leaf_or_missing (option_and_then (slice_get c.args.values.now) place)) c.in-None.ensures
