-- The items of the hub can be spelled, and are few enough.
use Rattle.std.proofs.Common.{◌≡◌, List, length, refl, ap, subst, ◌∙◌, arith}
use Rattle.flat_form.specs.declared.item.Item.{Item}
use Rattle.flat_form.specs.ItemRange.{CanBeSpelled}
use Rattle.flat_form.specs.ItemSpelling.{spelled_items}
use Rattle.hub_core.specs.HubSaving.{saved_of}
use Rattle.hub_core.specs.SavedHubs.{saved_items}
use Rattle.checkpoint.specs.Saves.{counted}
use Rattle.checkpoint.proofs.form.save.Goals as goal

pub returns-clause-saves : goal.returns-clause-saves
returns-clause-saves g c =
    let items : List Item = c.in_ok-items.items in
    let own : items ≡ saved_items (saved_of c.settle.new.self) = c.in_ok-items.ensures.added in
    record {
      form = record {
        valid = c.in_ok-items.ensures.valid;
        can_be = subst CanBeSpelled own (c.in_ok-items.ensures.spelled, c.fit_items.ensures);
        spelled = c.in_ok-encode_items.ensures ∙ ap spelled_items own;
      };
      short = let len = ap length c.in_ok-encode_items.ensures in
          omega (arith, len, c.spelled_len-size.ensures, c.if-size-gt-MOST_SAVED.false);
    }

pub returns-then-size-gt-MOST_SAVED-clause-saves : goal.returns-then-size-gt-MOST_SAVED-clause-saves
returns-then-size-gt-MOST_SAVED-clause-saves g c =
    let items : List Item = c.in_ok-items.items in
    let own : items ≡ saved_items (saved_of c.settle.new.self) = c.in_ok-items.ensures.added in
    let size = ap (λ (all : List Item). length (spelled_items all)) own in
    let long = c.if-size-gt-MOST_SAVED.true in
    let is = c.spelled_len-size.ensures in
    record {
      form = record {
        valid = c.in_ok-items.ensures.valid;
        can_be = subst CanBeSpelled own (c.in_ok-items.ensures.spelled, c.fit_items.ensures);
        spelled = refl;
      };
      long = omega (arith, size, is, long);
      is = is ∙ ap counted size;
    }
