use Rattle.std.proofs.Common.{List, map, sym, subst}
use Rattle.link_graph.specs.Links.{AreInRange}
use Rattle.config_links.specs.declared.linked.LPredicate.{LPredicate}
use Rattle.config_links.specs.LinkScopes.{named_predicates}
use Rattle.config_links.proofs.asked.judge_conditions.Goals as goal

-- the predicates of the slice are those of the scope
pub marks_from-requires : goal.marks_from-requires
marks_from-requires c =
    subst (λ (predicates : List LPredicate). AreInRange (map named_predicates predicates))
    (sym c.as_slice.ensures) c.requires
