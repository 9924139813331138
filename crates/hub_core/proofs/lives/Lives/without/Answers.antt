-- The counts are those of the slots, and what stood under the name is taken out.
use Rattle.std.proofs.Common.{SFits, w32, rules, ◌≡◌, ◌≤◌, cond, Option, sym, ap, subst, ◌∙◌}
use Rattle.std.specs.Ordering.{int_eq}
use Rattle.std.proofs.lemmas.Grind.{merely}
use Rattle.std.proofs.lemmas.Int.{to_z-of_z}
use Rattle.matcher_table.specs.Slots.{times_among}
use Rattle.matcher_table.specs.Tables.{outside_uses}
use Rattle.matcher_table.specs.Contents.{contents_of}
use Rattle.held_slots.specs.HoldingSteps.{ReleasesAll}
use Rattle.hub_core.specs.declared.live_instance.LiveInstance.{LiveInstance}
use Rattle.hub_core.specs.NamedLives.{AreNamed}
use Rattle.hub_core.specs.SharedTable.{IsHeldTable, slots_of}
use Rattle.hub_core.specs.Slots.{count_at, others_at}
use Rattle.hub_core.specs.Commands.{others}
use Rattle.hub_core.proofs.HeldLemmas.{counted_take_out, counts_set, above_set}
use Rattle.hub_core.proofs.NamedRowsLemmas.{named_out}
use Rattle.hub_core.proofs.NotedLemmas.{lives_noted}
use Rattle.hub_core.proofs.TableLemmas.{table_held, take_out-may_release, take_out-held}
use Rattle.hub_core.proofs.lives.Lives.without.Goals as goal

pub invariant_of-result : goal.invariant_of-result
invariant_of-result c =
    let uid_fits : SFits w32 c.args.name.uid = search rules in
    let count = c.others_of-others.result in
    let listed = simp to_z-of_z at c.in_ok-set_count.ensures in
    let counts = c.args.self.counts.entries in
    let set = counts_set c.args.name.uid count counts c.set_count.new.counts.entries listed in
    let is = simp to_z-of_z at c.others_of-others.ensures in
    let olds = c.args.self.slots.entries in
    let all = counted_take_out c.args.name.uid c.args.name.id olds c.take_out-old.new.slots.entries counts
    c.set_count.new.counts.entries count c.args.self.counted c.args.self.few c.requires
    c.take_out-old.ensures.held set is in
    record {
      counted = λ uid. (all uid).0;
      few = λ uid. (all uid).1;
      above_zero = above_set c.args.name.uid count counts c.set_count.new.counts.entries listed c.args.self.above_zero;
      noted = merely (c.take_out-old.ensures.noted (lives_noted c.args.self));
      named = subst AreNamed (sym c.take_out-old.ensures.entries) (named_out c.args.name olds c.args.self.named);
      held = merely (subst (IsHeldTable (contents_of c.release_old.new.table)) (sym c.take_out-old.ensures.entries)
          (take_out-held c.args.name olds (contents_of c.args.self.table) (contents_of c.release_old.new.table)
          (table_held c.args.self)
          (subst (λ (old : Option LiveInstance). ReleasesAll (contents_of c.args.self.table) (slots_of old)
          (contents_of c.release_old.new.table)) c.take_out-old.ensures.old c.release_old.ensures)));
    }

pub release_old-requires : goal.release_old-requires
release_old-requires c = λ s.
    subst (λ (old : Option LiveInstance). times_among s (slots_of old) ≤ outside_uses (contents_of c.args.self.table) s)
    (sym c.take_out-old.ensures.old)
    (take_out-may_release c.args.name c.args.self.slots.entries (contents_of c.args.self.table)
    (contents_of c.args.self.table) (table_held c.args.self) s)

pub returns : goal.returns
returns c =
    let uid_fits : SFits w32 c.args.name.uid = search rules in
    let counts = c.args.self.counts.entries in
    let is = simp to_z-of_z at c.others_of-others.ensures in
    let same : c.others_of-others.result ≡ others c.args.name c.args.self =
    is ∙ ap (λ b. others_at c.args.name.uid b counts) (sym c.requires) in
    let set = counts_set c.args.name.uid c.others_of-others.result counts c.set_count.new.counts.entries
    (simp to_z-of_z at c.in_ok-set_count.ensures) in
    record {
      slots = c.take_out-old.ensures.slots;
      counts = λ client.
          set client ∙ ap (λ n. cond (int_eq c.args.name.uid client) n (count_at client counts)) same;
    }
