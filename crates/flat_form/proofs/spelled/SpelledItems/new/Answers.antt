-- No bytes are the spelling of no items.
use Rattle.flat_form.proofs.SpelledLaws.{none_held}
use Rattle.flat_form.proofs.spelled.SpelledItems.new.Goals as goal

pub invariant_of-result : goal.invariant_of-result
invariant_of-result c = rw (c.new.ensures.items, c.new-2.ensures) none_held
