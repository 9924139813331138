-- What is so of the parts is so of the instance, and its metrics are listed.
use Rattle.std.proofs.Common.{List, map, subst}
use Rattle.client_engine.specs.Tracks.{metric_in}
use Rattle.client_engine.specs.Waking.{Listens}
use Rattle.client_engine.specs.declared.track.Track.{Track}
use Rattle.client_engine.proofs.instance.parts.Parts.listening.Goals as goal

pub invariant_of-result : goal.invariant_of-result
invariant_of-result c = (
  c.requires.askable,
  c.requires.within,
  subst (λ (tracks : List Track). Listens c.in_ok-listeners.listeners c.args.self.conditions.predicates
      (map metric_in tracks)) c.as_slice.ensures.value c.in_ok-listeners.ensures,
  c.requires.due,
  c.requires.marks,
)
