-- The item that begins at the place that is noted is the one that is held there.
use Rattle.std.proofs.Common.{◌≡◌, ℕ, List, Some, drop, sym, ap, subst, ◌∙◌}
use Rattle.sd_base.specs.Reads.{FailsBy}
use Rattle.flat_form.specs.declared.item.Item.{Item}
use Rattle.flat_form.specs.declared.flat_error.FlatError.TheVariants.{Bad}
use Rattle.flat_form.specs.ItemReading.{Unspelled, no_item_of, item_at}
use Rattle.flat_form.specs.Spelled.{read_item}
use Rattle.flat_form.proofs.SpelledLaws.{is_place}
use Rattle.flat_form.proofs.spelled.item_from.Goals as goal

pub bytes_from-requires : goal.bytes_from-requires
bytes_from-requires c =
    (is_place c.args.bytes.now c.args.starts.now c.args.place c.in-Some.start.now c.requires
    (sym c.in-Some.ensures)).within

pub returns-in-Ok : goal.returns-in-Ok
returns-in-Ok c =
    let there = is_place c.args.bytes.now c.args.starts.now c.args.place c.in-Some.start.now c.requires
    (sym c.in-Some.ensures) in
    let read : c.in-Ok.item ≡ read_item (item_at (drop c.in-Some.start.now c.args.bytes.now)) =
    ap read_item (sym c.in-Ok.ensures) ∙ ap (λ (l : List ℕ). read_item (item_at l)) c.bytes_from.ensures in
    ap (λ (i : Item). Some i) read ∙ sym there.found

-- where one begins, one is read
pub unreachable-requires : goal.unreachable-requires
unreachable-requires c =
    let there = is_place c.args.bytes.now c.args.starts.now c.args.place c.in-Some.start.now c.requires
    (sym c.in-Some.ensures) in
    let failed : FailsBy (no_item_of Bad) (item_at c.bytes_from.result.now) =
    subst (λ fault. FailsBy (no_item_of fault) (item_at c.bytes_from.result.now)) c.in-Err-Bad.field-0-is
    c.in-Err-Bad.ensures in
    there.read Unspelled (ap (λ (l : List ℕ). item_at l) (sym c.bytes_from.ensures) ∙ failed)
