-- Nothing is live, nothing is noted, and nothing is held of a new table.
use Rattle.std.proofs.Common.{◌≡◌, List, [], Option, None, Some, refl, sym, ap, subst, arith, ◌∙◌}
use Rattle.std.proofs.lemmas.Grind.{merely}
use Rattle.matcher_table.specs.declared.shared.SharedMatcher.{SharedMatcher}
use Rattle.matcher_table.specs.Slots.{matcher_at}
use Rattle.matcher_table.specs.Contents.{contents_of}
use Rattle.held_slots.proofs.TruthLaws.{table_sound}
use Rattle.hub_core.specs.NamedLives.{AreNamed}
use Rattle.hub_core.specs.SharedTable.{IsHeldTable}
use Rattle.hub_core.specs.Slots.{held_by, listed_at, count_at}
use Rattle.hub_core.proofs.NotedLemmas.{none_noted}
use Rattle.hub_core.proofs.TableLemmas.{none_held}
use Rattle.hub_core.proofs.lives.Lives.new.Goals as goal

pub invariant_of-result : goal.invariant_of-result
invariant_of-result c =
    let table = contents_of c.new-4.result in
    let slots : c.new.result.entries ≡ [] = search in
    let counts : c.new-2.result.entries ≡ [] = search in
    let noted = none_noted c.new-3.result c.new.result.entries c.new-3.ensures.under c.new-3.ensures.for_all slots in
    record {
      counted = λ uid. ap (held_by uid) slots ∙ sym (ap (count_at uid) counts);
      few = λ uid. omega (arith, ap (held_by uid) slots);
      above_zero = λ uid is.
          let none : None ≡ Some 0 = sym (ap (listed_at uid) counts) ∙ is in
          absurd (cc);
      noted = merely noted;
      named = subst AreNamed (sym slots) refl;
      held = merely (subst (IsHeldTable table) (sym slots) (none_held table (λ s. omega (
        arith,
        (table_sound c.new-4.result).unused s
            (ap (λ (slots : List (Option SharedMatcher)). matcher_at slots s) c.new-4.ensures.slots),
      ))));
    }
