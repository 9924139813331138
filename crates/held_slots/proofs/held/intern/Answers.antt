-- The slots of the children are live, and the combination is of them.
use Rattle.std.proofs.Common.{◌≡◌, ◌≢◌, ℕ, List, map, get_or, None, sym, ap, subst, ◌∙◌}
use Rattle.std.specs.Prelude.{IfOk}
use Rattle.std.specs.List.{All}
use Rattle.config_links.specs.SoundConfig.{named_matchers}
use Rattle.matcher_table.specs.declared.shared.SharedMatcher.{SharedMatcher}
use Rattle.matcher_table.specs.declared.shared.SharedMatcher.TheVariants.{Combination}
use Rattle.matcher_table.specs.declared.table.Slot.{Slot}
use Rattle.matcher_table.specs.Slots.{matcher_at}
use Rattle.matcher_table.specs.Steps.{Interns}
use Rattle.matcher_table.specs.Contents.{contents_of}
use Rattle.held_slots.specs.Holdings.{in_slots, IsHeldAt}
use Rattle.held_slots.proofs.HoldSteps.{slots_live, numbers_held}
use Rattle.held_slots.proofs.held.intern.Goals as goal

pub intern_combination-requires : goal.intern_combination-requires
intern_combination-requires c =
    let table = contents_of c.args.table.now in
    let numbers = c.args.numbers.now in
    let f : ℕ → Slot = λ k. record { number = get_or numbers k 0 } in
    let are : c.as_slice-in-Combo.result.now ≡ map f c.in-Combo.children =
    c.as_slice-in-Combo.ensures.value ∙ c.in_ok-slots-in-Combo.ensures ∙ ap (map f) c.as_slice.ensures in
    let all : All (IsHeldAt table numbers) c.in-Combo.children =
    subst (λ (xs : List ℕ). All (IsHeldAt table numbers) xs) (ap named_matchers c.in-Combo.is) c.requires.children in
    subst (λ (ss : List Slot). All (λ (slot : Slot). matcher_at table.slots slot.number ≢ None) ss) (sym are)
    (slots_live table numbers c.in-Combo.children all)

pub returns-in_ok-slots-in-Combo : goal.returns-in_ok-slots-in-Combo
returns-in_ok-slots-in-Combo c =
    let numbers = c.args.numbers.now in
    let f : ℕ → Slot = λ k. record { number = get_or numbers k 0 } in
    let are : c.as_slice-in-Combo.result.now ≡ map f c.in-Combo.children =
    c.as_slice-in-Combo.ensures.value ∙ c.in_ok-slots-in-Combo.ensures ∙ ap (map f) c.as_slice.ensures in
    let same : Combination c.in-Combo.op (map (λ (slot : Slot). slot.number) c.as_slice-in-Combo.result.now)
    ≡ in_slots numbers c.args.matcher.now =
    ap (λ (ss : List Slot). Combination c.in-Combo.op (map (λ (slot : Slot). slot.number) ss)) are
    ∙ ap (λ (ns : List ℕ). Combination c.in-Combo.op ns) (numbers_held numbers c.in-Combo.children)
    ∙ sym (ap (in_slots numbers) c.in-Combo.is) in
    subst (λ (shared : SharedMatcher). IfOk c.intern_combination.result (λ (slot : Slot).
    Interns (contents_of c.args.table.now) shared slot.number (contents_of c.intern_combination.new.self))) same
    c.intern_combination.ensures.interns
