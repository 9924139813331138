-- No order would be a cycle, and there is none.
use Rattle.std.proofs.Common.{ℕ, List, Option, subst}
use Rattle.std.specs.Option.{IfNone}
use Rattle.link_graph.specs.Links.{HasCycle}
use Rattle.matcher_truths.specs.MatcherTruths.{named_places}
use Rattle.heard_ids.proofs.idle.evaluation_order.Goals as goal

pub unreachable-requires : goal.unreachable-requires
unreachable-requires c =
    let cycle : HasCycle (named_places c.args.matchers.now) =
    subst (λ (found : Option (List ℕ)). IfNone found (HasCycle (named_places c.args.matchers.now))) c.in-None.is
    c.in_ok-order.ensures.none in
    c.requires.no_cycle cycle.0 cycle.1
