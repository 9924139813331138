use Rattle.std.proofs.Common.{sym}
use Rattle.known_conditions.proofs.TouchersLemmas.{none_below}
use Rattle.known_conditions.proofs.conditions.Conditions.acts_below.Goals as goal

-- nothing is below nothing
pub returns-in-None : goal.returns-in-None
returns-in-None c = rw (c.in-None.is) (sym (none_below c.args.self.now.predicates c.args.matched.now))
