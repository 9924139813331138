use Rattle.std.proofs.Common.{◌∙◌, Option, List, [], ℕ, ap, get_or}
use Rattle.std.specs.Prelude.{unwrap_or}
use Rattle.std.proofs.lemmas.Option.{unwrap_or-slice_get}
use Rattle.known_conditions.proofs.conditions.Conditions.touchers_of.Goals as goal

-- past the end none is listed
pub returns-in-None-get : goal.returns-in-None-get
returns-in-None-get c =
    let root = c.in-Some.root in
    let there = rw (c.in-None-get.is) at c.get.ensures in
    rw (c.in-Some.is, ← c.self.view_is)
    (ap (λ (found : Option (List ℕ)). unwrap_or found []) there
    ∙ unwrap_or-slice_get c.self.inside.touchers root []
    ∙ ap (λ lists. get_or lists root []) c.self.invariant.1)
