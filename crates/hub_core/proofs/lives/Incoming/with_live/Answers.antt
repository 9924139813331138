-- The counts are those of the slots, and the configuration stands under its name.
use Rattle.std.proofs.Common.{◌≤◌, ◌+◌, Option, is_some, refl, sym, subst}
use Rattle.std.proofs.lemmas.Grind.{merely}
use Rattle.matcher_table.specs.Slots.{times_among}
use Rattle.matcher_table.specs.Tables.{outside_uses}
use Rattle.matcher_table.specs.Contents.{contents_of}
use Rattle.held_slots.specs.HoldingSteps.{ReleasesAll}
use Rattle.hub_core.specs.declared.live_instance.LiveInstance.{LiveInstance}
use Rattle.hub_core.specs.NamedLives.{AreNamed}
use Rattle.hub_core.specs.SharedTable.{IsHeldTable, slots_of}
use Rattle.hub_core.specs.Slots.{slot_at, others_at}
use Rattle.hub_core.proofs.HeldLemmas.{counted_put, counts_set, above_set}
use Rattle.hub_core.proofs.NamedRowsLemmas.{named_in}
use Rattle.hub_core.proofs.NotedLemmas.{noted_is}
use Rattle.hub_core.proofs.TableLemmas.{held_is, insert-may_release, insert-held}
use Rattle.hub_core.proofs.lives.Incoming.with_live.Goals as goal

pub release_old-requires : goal.release_old-requires
release_old-requires c = λ s.
    subst (λ (old : Option LiveInstance). times_among s (slots_of old)
    ≤ outside_uses (contents_of c.args.self.table) s) (sym c.in_ok-old.ensures.old)
    (insert-may_release c.args.self.name c.args.self.live c.args.self.rows.slots.entries (contents_of c.args.self.table)
    (held_is (contents_of c.args.self.table) _ c.args.self.held) s)

pub invariant_of-result : goal.invariant_of-result
invariant_of-result c =
    let name = c.args.self.name in
    let counts = c.args.self.rows.counts.entries in
    let olds = c.args.self.rows.slots.entries in
    let others = others_at name.uid (is_some (slot_at name olds)) counts in
    let rows = c.put_counted.new.rows in
    let set = counts_set name.uid (others + 1) counts rows.counts.entries c.in_ok-old.ensures.counts in
    let all = counted_put name.uid name.id olds rows.slots.entries counts rows.counts.entries others
    c.args.self.counted c.args.self.few c.in_ok-old.ensures.held set refl c.requires in
    record {
      counted = λ uid. (all uid).0;
      few = λ uid. (all uid).1;
      above_zero = above_set name.uid (others + 1) counts rows.counts.entries c.in_ok-old.ensures.counts
          c.args.self.above_zero;
      noted = merely (c.in_ok-old.ensures.noted (noted_is c.args.self.rows.notes olds c.args.self.noted));
      named = subst AreNamed (sym c.in_ok-old.ensures.entries) (named_in name c.args.self.live olds c.args.self.named);
      held = merely (subst (IsHeldTable (contents_of c.release_old.new.table)) (sym c.in_ok-old.ensures.entries)
          (insert-held name c.args.self.live olds (contents_of c.args.self.table)
          (held_is (contents_of c.args.self.table) _ c.args.self.held) (contents_of c.release_old.new.table)
          (subst (λ (old : Option LiveInstance). ReleasesAll (contents_of c.args.self.table) (slots_of old)
          (contents_of c.release_old.new.table)) c.in_ok-old.ensures.old c.release_old.ensures)));
    }

pub returns-clause-counts : goal.returns-clause-counts
returns-clause-counts c =
    let name = c.args.self.name in
    let counts = c.args.self.rows.counts.entries in
    counts_set name.uid (others_at name.uid (is_some (slot_at name c.args.self.rows.slots.entries)) counts + 1) counts
    c.put_counted.new.rows.counts.entries c.in_ok-old.ensures.counts
