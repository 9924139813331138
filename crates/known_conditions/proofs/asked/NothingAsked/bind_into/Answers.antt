-- Whatever the places, where nothing is read nothing is asked.
use Rattle.std.proofs.Common.{◌≡◌, ℕ, List, [], ◌∷◌, refl, ◌∙◌}
use Rattle.condition_links.specs.LinkBinds.{binds_of}
use Rattle.known_conditions.proofs.asked.NothingAsked.bind_into.Goals as goal

none_read : (places : List ℕ) → [] ≡ binds_of places []
none_read [] = refl
none_read (place ∷ places) = refl

pub returns : goal.returns
returns c = c.clear.ensures ∙ none_read c.args.link.now.places
