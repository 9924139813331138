-- The item that was added stands at the end, and is read where it begins.
use Rattle.std.proofs.Common.{◌≡◌, ℕ, List, [], ◌∷◌, ◌++◌, ap, ◌∙◌}
use Rattle.flat_form.specs.ItemSpelling.{spelled_item}
use Rattle.flat_form.specs.Spelled.{items_from}
use Rattle.flat_form.proofs.SpelledLaws.{IsHeld, grown}
use Rattle.flat_form.proofs.spelled.SpelledItems.push.Goals as goal

-- the item is held behind those that were
held : (c : goal.In_ok-append) → IsHeld c.append.new.bytes.items c.append.new.starts
    (items_from c.self.inside.bytes.items c.self.inside.starts ++ c.args.item.now ∷ [])
held c =
    let spelling : c.deref.result.now ≡ spelled_item c.args.item.now = c.deref.ensures.value ∙ c.in_ok-encode.ensures
    ∙ ap (λ (l : List ℕ). l ++ spelled_item c.args.item.now) c.clear.ensures.items in
    grown c.self.inside.bytes.items c.self.inside.starts c.args.item.now c.append.new.bytes.items c.append.new.starts
    c.self.invariant (c.requires, c.fit_item.ensures)
    (c.in_ok-append.ensures.bytes ∙ ap (λ (l : List ℕ). c.self.inside.bytes.items ++ l) spelling)
    c.in_ok-append.ensures.starts

pub invariant_of-self-2 : goal.invariant_of-self-2
invariant_of-self-2 c = (held c).are

pub returns-clause-added : goal.returns-clause-added
returns-clause-added c = rw c.self.view_is at (held c).view
