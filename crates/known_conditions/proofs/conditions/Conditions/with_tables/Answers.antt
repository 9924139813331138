use Rattle.std.proofs.Common.{◌∙◌, ◌≤◌, false, length, sym, ap, subst}
use Rattle.std.proofs.lemmas.List.{length-replicate}
use Rattle.link_graph.specs.Links.{AreInRange}
use Rattle.field_select.specs.declared.leaf.FieldSet.{FieldSet}
use Rattle.config_links.specs.SoundConfig.{most_predicates}
use Rattle.condition_links.specs.Conditions.{predicate_names}
use Rattle.known_conditions.specs.KeptPredicates.{acting_matchers}
use Rattle.known_conditions.specs.Lists.{AreListed}
use Rattle.known_conditions.specs.Touchers.{all_touchers}
use Rattle.known_conditions.proofs.conditions.Conditions.with_tables.Goals as goal

-- references end at predicates
pub touchers_of_all-requires : goal.touchers_of_all-requires
touchers_of_all-requires c =
    let can = c.requires.kept.can in
    let same = sym c.as_slice-kept.ensures in
    record {
      few = subst (λ predicates. length predicates ≤ most_predicates) same can.few;
      in_range = subst (λ predicates. AreInRange (predicate_names predicates)) same can.in_range;
    }

-- the tables are kept as the predicates say, and the touchers are theirs
pub invariant_of-result : goal.invariant_of-result
invariant_of-result c = (
  c.requires.kept,
  c.in_ok-touchers.ensures ∙ ap all_touchers c.as_slice-kept.ensures,
  ap (λ leaves. let fields : FieldSet = record { atom_id = 0; leaves = leaves } in fields) c.new-2.ensures,
  subst (AreListed c.in_ok-actors.actors.items acting_matchers) c.as_slice-kept.ensures c.in_ok-actors.ensures,
  ap length c.in_ok-marks.ensures ∙ length-replicate (length c.as_slice-kept.result.now) false
      ∙ ap length c.as_slice-kept.ensures,
)
