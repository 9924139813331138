-- The counts are those of the slots as before, and the table is held by what comes in, too.
use Rattle.std.proofs.Common.{sym}
use Rattle.std.proofs.lemmas.Grind.{merely}
use Rattle.matcher_table.specs.Contents.{contents_of}
use Rattle.hub_core.proofs.NamedRowsLemmas.{named_more}
use Rattle.hub_core.proofs.TableLemmas.{table_held, interned}
use Rattle.hub_core.proofs.lives.Lives.with_interned.Goals as goal

pub invariant_of-result : goal.invariant_of-result
invariant_of-result c = record {
  counted = c.args.self.counted;
  few = c.args.self.few;
  above_zero = c.args.self.above_zero;
  noted = c.args.self.noted;
  named = named_more (c.args.accepted.name, c.in_ok-live.live) c.args.self.slots.entries
      (sym c.in_ok-live.ensures.carries.name) c.args.self.named;
  held = merely (interned c.args.accepted.name c.in_ok-live.live c.args.self.slots.entries
      (contents_of c.args.self.table)
      (contents_of c.new.new.table) (table_held c.args.self)
      c.in_ok-live.ensures.interned.holds c.in_ok-live.ensures.interned.uses c.in_ok-live.ensures.interned.others);
}
