-- The tables are kept as the predicates say.
use Rattle.std.proofs.Common.{refl, sym, subst, ◌∙◌}
use Rattle.known_conditions.specs.KeptPredicates.{HaveTheirSpecs}
use Rattle.client_engine.proofs.InstanceLemmas.{sound_kept}
use Rattle.client_engine.proofs.instance.saved.restore.Goals as goal

pub with_tables-requires : goal.with_tables-requires
with_tables-requires c = record {
  kept = record {
    can = sound_kept c.args.linked c.requires.sound;
    specs = subst (HaveTheirSpecs c.args.linked.predicates) (c.as_slice-2.ensures ∙ sym c.into_vec.ensures)
        (subst (λ predicates. HaveTheirSpecs predicates c.as_slice-2.result.now) c.as_slice.ensures
        (c.if-not-have.ensures.0 refl));
  };
}
