-- Nothing is live, and nothing is held of the table.
use Rattle.std.proofs.Common.{[], None, ap, sym, subst}
use Rattle.hub_core.specs.HubStands.{SlotStandsFor}
use Rattle.hub_core.specs.Slots.{live_id, slot_at, count_at}
use Rattle.hub_core.proofs.TableLemmas.{table_held}
use Rattle.hub_core.proofs.hub.Hub.new.Goals as goal

pub returns-clause-stands : goal.returns-clause-stands
returns-clause-stands g c = record {
  clock = search;
  books = search;
  table = table_held c.new-2.result;
  lives = record {
    slots = λ uid id. subst (λ slots. SlotStandsFor g.J.Judge.says _ uid [] (slot_at (live_id uid id) slots) None)
        (sym c.new-2.ensures.slots) tt;
    counts = λ uid. ap (count_at uid) c.new-2.ensures.counts;
  };
}
